-- memos can be made of the trees of the tests
pub mod Plannable
