-- EXPLAIN JSON and CHECK PLAN of a SELECT have one numbered form
mod Forms
-- The plan file that EXPLAIN JSON prints is read from its bytes, and accepted
mod Files
-- CHECK PLAN accepts what EXPLAIN JSON prints
mod Accepted
