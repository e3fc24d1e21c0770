pub mod Joins
pub mod Evaluation
