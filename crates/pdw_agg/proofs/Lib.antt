-- what aggregates keep of values, one value more
pub mod RunningLemmas
-- lists of what rows stand for
pub mod MapLemmas
-- columns by their numbers alone
pub mod NumberLemmas
-- the rows of the three stages, and what positional rows stand for
pub mod StageLemmas
-- groups of positional rows
pub mod GroupLemmas
-- partial rows, merged
pub mod MergeLaws
-- the kinds of values
pub mod KindLemmas
-- made rows fit
pub mod FitLemmas
-- what the three functions make
pub mod MadeLaws
-- small rows worked out by hand
pub mod Rows
-- final rows have the columns of the groups
pub mod FinalLaws
