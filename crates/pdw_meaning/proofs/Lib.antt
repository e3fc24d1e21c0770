-- Rows with their partners, one row more
pub mod JoinLemmas
-- What the parts of a query mean, by their own parts
pub mod QueryLemmas
