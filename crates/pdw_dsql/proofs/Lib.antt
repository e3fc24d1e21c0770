-- local trees over their children
pub mod TreeRuns
-- steps one after the other
pub mod RunLemmas
-- what a fragment of a plan does
pub mod CutParts
-- the steps of a plan
pub mod PlanSteps
-- the expression that a node applies
pub mod Applied
-- what the code asks of a node's children, and makes of them
pub mod NodeSteps
-- columns of the same kinds
pub mod SameKinds
-- the columns of two sets of leaves
pub mod UnionColumns
-- columns that are INT or TEXT
pub mod PlainColumns
-- expressions that are well-typed: in general, of blocks, of trees and of memos
pub mod ExprTypes
pub mod BlockTypes
pub mod TreeTypes
pub mod MemoTypes
-- the types of local trees, of fragments and of steps
pub mod TypedTrees
pub mod TypedParts
pub mod TypedSteps
-- the steps of small plans, and a run of them, worked out by hand
mod HandSteps
mod HandRuns
