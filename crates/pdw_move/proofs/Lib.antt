-- what bounds a cost
pub mod CostLemmas
-- costs worked out by hand
mod CostRows
