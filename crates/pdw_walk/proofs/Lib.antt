-- Taking a walk that was done into its parts
pub mod Outcomes
-- Loops of the walk that were done, turn by turn
pub mod Loops
-- Each statement that holds a SELECT is judged by the walk of that SELECT
pub mod HeldSelects
