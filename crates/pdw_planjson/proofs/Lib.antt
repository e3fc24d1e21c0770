-- tests that both hold
pub mod BoolLaws
-- lists of values as data
pub mod KeyLaws
-- which texts `parse` reads as numbers
pub mod NumeralLaws
-- properties by the hash of a column
pub mod WordLaws
-- data with no float, not deep
pub mod TextLaws
-- numbers read back
pub mod ReadBack
-- nodes read back, over the stack
pub mod NodesBack
-- plans read back
pub mod Trips
-- files read back
pub mod FileBack
-- files worked by hand
pub mod Rows
-- answers to written files
pub mod AnswerBack
