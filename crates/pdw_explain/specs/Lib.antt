-- what a plan makes
pub mod Makes
-- the lines of a plan
pub mod Lines
