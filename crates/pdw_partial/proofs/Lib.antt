-- what aggregates keep of parts, merged
pub mod Merging
-- the cells of partial rows, and of what is made of them
pub mod Cells
-- final rows are the groups
pub mod Groups
-- which partial rows are admitted
pub mod Admitted
-- small rows worked out by hand
pub mod Rows
