-- the local trees of operators
pub mod Trees
-- the nodes at which trees run
pub mod Sites
-- plans cut into steps
pub mod Steps
-- steps that are run one after the other
pub mod Follows
-- steps that are well-typed
pub mod Typed
