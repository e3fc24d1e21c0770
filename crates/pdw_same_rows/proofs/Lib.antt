-- OR of equal bags of truths, and whether an equal bag has rows
pub mod Truths
-- Trees: each operator makes equal bags of equal bags
pub mod SameTrees
-- Numbered forms: FROM, subqueries and queries mean equal bags
pub mod SameForms
-- Statements: the answers of a SELECT that is accepted are equal bags
pub mod SameAnswers
