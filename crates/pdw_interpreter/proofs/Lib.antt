-- Rows stand for the environments that they are made of, where the columns cover these
pub mod ColumnLemmas
-- Groups of rows are groups of what the rows stand for
pub mod GroupLemmas
-- Joins of rows are joins of what the rows stand for
pub mod JoinLemmas
-- Lists of rows, and of what the rows stand for
pub mod MapLemmas
-- Rows side by side: their values, and what they stand for
pub mod MergedLemmas
-- Joins of rows over the columns of both sides
pub mod RelationLemmas
-- Rows that are made value by value
pub mod RowLemmas
-- The rows of a block, by those of its leaves
pub mod TreeLemmas
