-- The text of what is planned, over what it is planned on
pub mod Planned
-- Books that tell the same statistics of each name make the moves of a memo cost the same
pub mod SameBooks
-- CHECK PLAN accepts what EXPLAIN JSON prints
pub mod Accepted
