-- an entry has a plan
pub mod Nodes
-- so has each bound of a log
pub mod Logs
-- a bound that is put to its place is found there
pub mod Rows
-- a fall keeps what is known of the group at hand
pub mod Steps
-- what bounds are at most
pub mod Limits
-- a step of each pass
pub mod Passes
-- the table of the groups that are done
pub mod Tables
-- plans that are read off a log cost what it says
pub mod Builds
-- the runs of a node, by those of its children
pub mod RunFolds
-- no property occurs twice in a run of a plan that is read off a log
pub mod ReadsOff
-- such a run has at most four moves and free changes
pub mod Chains
-- and a plan of such runs at most five nodes for each operator
pub mod FewNodes
-- a plan has at most as many operators as its group weighs
pub mod FewOperators
-- the rows of each group can be brought to one node
pub mod ReachedLemmas
-- runs that were worked out by hand
mod ByHand
