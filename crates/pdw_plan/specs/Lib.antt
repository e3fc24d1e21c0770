-- how many nodes a plan has
pub mod Count
-- the rows that a plan gives at each node
pub mod Given
-- the walk that checks a plan
pub mod Walk
-- the law of plans
pub mod Law
-- the nodes of results and of their children
pub mod Covers
-- what a check answers
pub mod Answer
-- what plans cost
pub mod Cost
