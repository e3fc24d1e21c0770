-- the lines of a plan, node by node
pub mod LineNodes
-- the lines of a plan, worked out by hand
mod ByHand
