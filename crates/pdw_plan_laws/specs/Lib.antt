-- what CHECK PLAN answers of what EXPLAIN JSON printed
pub mod Accepts
