-- A plan's nodes and its height
pub mod Nodes
-- The kinds of a plan's nodes
pub mod NodeKinds
-- A tree weighs at most as much as it has operators
pub mod TreeWeights
-- The groups of a tree's memo weigh at most what the tree does
pub mod Weights
-- The interesting columns of each group are different
pub mod Columns
-- The groups of a tree's memo by their numbers
pub mod Weighed
-- What a move costs at most
pub mod Moves
-- What a group's rows cost at most, by the operators of any plan for them
pub mod Runs
-- Each bound in its list
pub mod Lists
-- What is planned keeps the limits
pub mod Files
-- A sound tree that makes columns of low numbers gives such columns
pub mod TreeColumns
-- So do the groups of its memo
pub mod GroupColumns
-- A plan without fault has numbers as plan files write them
pub mod PlanNumbers
-- So does each plan for the query of a statement that is accepted
pub mod SmallNumbers
