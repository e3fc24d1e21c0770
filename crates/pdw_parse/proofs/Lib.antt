-- what a pair of parentheses reads, from what stands in it
pub mod NestedReads
