-- how much moves of the groups of a memo move
pub mod Flows
-- the cheapest property of the root
pub mod Root
-- a least plan with its bounds
pub mod Least
