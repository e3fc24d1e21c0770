pub mod Value
pub mod Places
pub mod Index
