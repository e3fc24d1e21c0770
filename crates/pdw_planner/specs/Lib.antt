-- what a query is planned to
pub mod Planned
-- which plans no other undercuts
pub mod PlanFor
