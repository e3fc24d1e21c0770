-- that there are least costs
pub mod Exists
