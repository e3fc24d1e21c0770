-- rows that a transfer starts from
pub mod Starts
-- temporary tables as they stand
pub mod Tables
-- what moves sent
pub mod Counts
-- what pickers are asked for moves
pub mod Asks
-- what one step did
pub mod Brought
-- what executing a plan gives
pub mod Executed
