pub mod Columns
pub mod Grouping
pub mod Fitting
pub mod Running
pub mod Stage
pub mod Made
