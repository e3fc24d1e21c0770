-- Tables with names of their own, before and after a statement
pub mod NameLemmas
-- How the plain state follows the appliance
pub mod PlainLemmas
-- The order of rows by keys is total, and rows that are sorted by it are in an order that the keys allow
pub mod OrderLaws
-- What the judgement of a statement that is executed says of the tables
pub mod JudgedLaws
-- The table of a SELECT is an answer that its meaning allows
pub mod LawfulLaws
-- Statements leave the same plain states from the same plain states
pub mod SamePlains
-- What a session keeps stays in order
pub mod StateLemmas
-- What queries are planned over, as the code hands it on and as the session keeps it
pub mod BasisLemmas
-- What is measured of rows that fit a table is in its ranges
pub mod ReachableRows
-- A book that tells the statistics of each name, after those of one name have changed
pub mod ReachableBooks
-- What every statement keeps of a plain state
pub mod ReachableKept
-- The plain states that a script reaches, and that queries can be planned over each of them
pub mod Reachable
-- Over each plain state that a script reaches, each query that the judgement accepts has a least plan
pub mod ReachablePlans
