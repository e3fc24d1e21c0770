-- What the test of UTF-8 says of the text of some bytes
pub mod TextLemmas
-- The order of values is total, and equal only for equal values
pub mod ComparisonLemmas
-- The laws of equal bags, and the bridge to std's permutations
pub mod SameBagLaws
-- One step of a loop over a list: what holds of the items so far, at one item more
pub mod Steps
-- Columns that rise from one to the next rise strictly throughout
pub mod SchemaLemmas
-- The laws of positional rows: a row and its environment give each other back
pub mod RowLaws
