pub mod Meaning
pub mod Local
pub mod Schema
pub mod Types
pub mod Shape
pub mod WellFormed
pub mod Within
