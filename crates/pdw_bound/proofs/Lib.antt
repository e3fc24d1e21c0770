-- A tree has no more nodes than its nodes of each kind together
pub mod NodeCounts
-- The tree of a statement that is accepted has a memo
pub mod Plannable
