-- the sizes of memos
pub mod SoundParts
pub mod Counts
-- what nodes add
pub mod Built
pub mod LeafStep
pub mod TreeStep
-- how many joins there are
pub mod MemoSizes
pub mod CountSteps
-- laws of every memo
pub mod EachGroup
pub mod MemoScans
pub mod MemoSides
pub mod MemoDiffers
pub mod MemoMeans
pub mod MemoColumns
pub mod RisingLaws
pub mod MemoRows
pub mod Weights
pub mod MemoWeights
pub mod LeftParts
pub mod MemoExprs
