-- operators over children
pub mod OperatorLaws
-- sets of leaves as numbers
pub mod SetLaws
-- parts of a block
pub mod PartStands
-- nodes of trees
pub mod SchemaLaws
pub mod NodeTree
pub mod NodeStands
-- children before their groups
pub mod OrderLaws
pub mod CountLaws
pub mod PartOrder
pub mod BlockWhole
pub mod NodeOrder
-- the memo
pub mod MemoLaws
-- the definitions on small trees, worked out by hand
pub mod CountRow
pub mod LevelRows
-- for the calls
pub mod ColumnLemmas
pub mod SetLemmas
pub mod SingleLemmas
pub mod PartLemmas
pub mod SetGroupLemmas
pub mod KeptLaws
