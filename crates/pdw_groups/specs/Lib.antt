-- what a group means, and what its expressions give
pub mod Meaning
-- the columns of groups
pub mod Columns
-- which parts of a block a level has, and how they are joined
pub mod Level
-- groups with their meanings
pub mod Group
-- the groups of a block
pub mod Block
-- the groups of a tree
pub mod Node
-- the memo of a tree
pub mod Memo
-- what the calls keep
pub mod Sets
