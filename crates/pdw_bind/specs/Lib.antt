pub mod Bind
pub mod Nodes
