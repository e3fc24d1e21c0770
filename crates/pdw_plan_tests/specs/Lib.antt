-- trees of the tests
pub mod Trees
