pub mod Text
pub mod Value
pub mod Hash
pub mod Comparison
pub mod Schema
pub mod SameBag
