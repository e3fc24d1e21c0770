-- statistics stay in their ranges, in the book too
pub mod RangeLemmas
-- how many different values there are
pub mod DistinctLemmas
-- columns of the rows of some parts
pub mod ColumnLemmas
-- the statistics of a sound appliance, and of equal bags
pub mod MeasuredLemmas
-- statistics worked out by hand
mod MeasuredRows
-- the book before and after it is changed
pub mod BookLaws
