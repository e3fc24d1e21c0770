pub mod Nodes
pub mod Shapes
pub mod Relation
pub mod Scans
pub mod Run
