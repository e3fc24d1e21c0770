-- the words of the texts
pub mod Words
-- the rows of SELECT
pub mod Rows
-- the lines of EXPLAIN
pub mod Plan
-- the steps of PROFILE
pub mod Profile
-- the verdicts of CHECK PLAN
pub mod Verdict
-- what statements print
pub mod Answer
-- the lines that refuse scripts and statements
pub mod Refusal
pub mod RefusalLine
pub mod Code
