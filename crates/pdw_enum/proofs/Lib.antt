-- in every memo a scan's hash column is interesting at its group
pub mod Scanned
-- each group of a memo is made by its first expression
pub mod MadeGroups
-- the columns of the root are different, so each of its properties has one place
pub mod Columns
pub mod Places
-- the least of its bounds
pub mod RootBounds
-- what moves cost by the flows of groups is what they cost by their sizes
pub mod FlowCosts
-- what the search needs of a memo
pub mod MemoPremises
-- the least plan
pub mod LeastPlans
-- the root and the least of its bounds, by hand
mod ByHand
