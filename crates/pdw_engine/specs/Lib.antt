-- what SET changes
pub mod Settings
-- statistics that are handed over
pub mod Statistics
-- tables with names of their own
pub mod Names
-- what a session keeps
pub mod State
pub mod Plain
pub mod Prepared
-- what statements are prepared to
pub mod Ready
pub mod Executes
pub mod Selected
-- the plain states that a script reaches
pub mod Reachable
