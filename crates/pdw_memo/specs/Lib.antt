-- what a memo is
pub mod Memo
-- how it is made
pub mod Building
-- what holds of every memo
pub mod Laws
