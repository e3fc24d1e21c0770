pub mod Move
pub mod Cost
pub mod Placed
