-- one list of bounds for each group, in it one for each property
pub mod Shape
-- bounds that exceed what they allow to a way
pub mod TooHigh
-- the verdict on a plan with its cost and bounds
pub mod Verdict
