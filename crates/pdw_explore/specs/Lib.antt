-- how far each block is explored
pub mod Levels
-- what becomes of a memo's groups and blocks
pub mod Grown
-- the explored memo
pub mod Explored
