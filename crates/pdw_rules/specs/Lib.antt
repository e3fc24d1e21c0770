pub mod Stands
pub mod Rules
pub mod Scans
