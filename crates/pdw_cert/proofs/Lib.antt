-- the properties of a group by their places
pub mod Properties
-- the shape of bounds
pub mod ShapeLemmas
-- a search for the first bound that is too high
pub mod Searches
-- where no bound is too high, the bounds are valid
pub mod Validity
-- bounds that are small, and what moves are reckoned with
pub mod Reckoned
-- what is found of equal groups and lists
pub mod Looked
-- there is one verdict
pub mod Verdicts
-- the bounds of a count over a table, worked out by hand
mod ByHand
