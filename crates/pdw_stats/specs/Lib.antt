pub mod Stats
pub mod Measured
pub mod Known
pub mod Book
