-- Two lists whose items are related place by place, and what keeps that: so the rows of two meanings are compared
pub mod Related
-- Rows without their duplicates, and groups of rows by their keys
pub mod Distinct
-- The rows of a list without their duplicates are the rows of the list
pub mod Once
