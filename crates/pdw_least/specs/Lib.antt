-- the log of a search
pub mod Log
-- what it needs of the groups
pub mod Premises
-- what is known while it goes on
pub mod States
-- a table of least costs
pub mod Table
-- the runs of moves and free changes of a plan
pub mod Runs
-- plans that are read off a log
pub mod Built
-- under which condition each group's rows can be brought to one node
pub mod Reached
