pub mod Environment
pub mod Exprs
pub mod Conds
pub mod Froms
pub mod Queries
pub mod Answer
