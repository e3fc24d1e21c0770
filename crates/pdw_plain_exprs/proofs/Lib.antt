-- Rows with names, and what a reference means in them
pub mod ScopeLemmas
-- The value of a chain, and of an aggregate
pub mod ExprLemmas
-- The groups of a query by their rows alone
pub mod GroupLemmas
