-- the ways to make the rows of a group under a property
pub mod Ways
-- plans: each of their nodes is a way
pub mod Shape
-- bounds on what plans cost
pub mod Bounds
-- what moves cost, by the flow of each group
pub mod Costing
-- the cheapest way by bounds
pub mod Offers
-- how it is found, by the rules read backwards
pub mod Search
