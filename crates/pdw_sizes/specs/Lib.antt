-- by what conjuncts divide rows
pub mod Divisor
-- what is reckoned of trees
pub mod Estimate
-- the sizes of groups
pub mod Sizes
-- how what a group means is read from a memo
pub mod Reading
-- what is reckoned of groups by their numbers
pub mod Numbered
