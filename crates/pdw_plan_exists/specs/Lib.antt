-- that a query has a least plan
pub mod HasLeastPlan
