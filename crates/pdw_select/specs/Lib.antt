-- what queries were planned to
pub mod PlannedOver
-- the rows of a SELECT
pub mod Selected
