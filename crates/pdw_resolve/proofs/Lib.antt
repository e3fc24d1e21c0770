-- A loop that walks over a list from left to right
pub mod Turns
-- A loop that gathers the columns of a scope that a reference fits
pub mod Matches
-- Aggregates in a chain
pub mod NameLemmas
-- What the walk of a chain is, by the walks of its operands
pub mod Chains
-- Conditions that are one conjunct
pub mod Nodes
-- Steps over lists that are made of other lists
pub mod Spread
