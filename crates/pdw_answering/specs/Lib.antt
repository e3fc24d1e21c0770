-- what queries are planned over
pub mod Basis
-- what EXPLAIN answers
pub mod Explains
-- what EXPLAIN JSON answers
pub mod Prints
-- what CHECK PLAN answers
pub mod Checks
