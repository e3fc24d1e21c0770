-- what occurs in a bag, and what is the same for equal bags
pub mod Occurrence
-- filters, joins and products of equal bags
pub mod Operators
-- the least and the greatest, in any order
pub mod Picks
-- aggregates over parts, and over equal bags
pub mod Aggregates
-- rows each once, and parts by their keys
pub mod Keys
-- groups of equal bags
pub mod Groups
