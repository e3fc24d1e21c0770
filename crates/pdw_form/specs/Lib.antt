pub mod Columns
pub mod Numbered
pub mod Sound
pub mod Counts
