pub mod Machine
pub mod Lane
pub mod Flags
pub mod Ready
pub mod Events
