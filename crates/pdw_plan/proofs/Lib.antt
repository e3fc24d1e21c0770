-- the walk over a plan
pub mod WalkLemmas
pub mod WalkNodes
-- what costs do not matter to
pub mod Costless
-- groups of partial rows
pub mod MemoPartials
-- the law of plans
pub mod PlanParts
pub mod OperatorCases
pub mod PlanLaw
-- the nodes of children
pub mod CoverLaws
-- the costs of moves and of plans
pub mod CostBounds
pub mod CostFolds
-- children by their groups
pub mod GroupsOf
-- the rows of a small memo's plans, worked out by hand
mod ByHand
