-- The order of rows by keys is total, and rows that are sorted by it are in an order that the keys allow
pub mod OrderLaws
-- Rows that are read at the places of the output columns are read by these columns
pub mod OutputLemmas
-- The last group of a memo is there, and has the columns of the root
pub mod RootLemmas
-- What was planned is a plan for the query over a memo of its tree, and its rows are those of the tree
pub mod PlannedRows
