-- conjuncts by their form, and trees by their nodes
pub mod EstimateFolds
-- no tree has more than 10^12 rows
pub mod RowsLemmas
-- sizes worked out by hand
mod SizeRows
-- what groups mean is read from a memo
pub mod EachLaws
pub mod BlockReads
pub mod NodeReads
pub mod MemoReads
-- what is reckoned of groups by their numbers
pub mod NumberedLaws
pub mod FirstLaws
-- one step of each loop
pub mod LoopLaws
-- for the calls
pub mod ReadLaws
pub mod MadeLaws
