-- the plan file of what is planned
pub mod Written
-- what is found of a file
pub mod Verdict
