-- the rows of all compute nodes
pub mod Together
-- what rows stand for is a matter of bags
pub mod Alike
-- filters by tests that agree, and by numbers
pub mod Filters
-- the seven moves
pub mod Moves
-- properties that are the same, rows made at a site, free changes, the return
pub mod SiteLemmas
-- filters and projections
pub mod UnaryLemmas
-- keys that occur in two lists apart
pub mod Keys
-- groups, final rows and partial rows
pub mod Groups
-- conjuncts that compare two columns
pub mod Equalities
-- joins by their left rows, and rows that have NULL in a column
pub mod Sides
-- joins where both sides stand by the hash of compared columns
pub mod Matched
-- joins under each of their rules
pub mod JoinLemmas
-- scans of tables
pub mod Scans
-- what is no rule, by rows worked out by hand
pub mod NotRules
-- the properties of a group
pub mod Listed
-- the rules and the moves on small cases, worked out by hand
pub mod ByHand
