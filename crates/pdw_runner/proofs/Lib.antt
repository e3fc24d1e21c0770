-- lists over the nodes of an appliance
pub mod NodeLists
-- what a move makes of rows at the nodes
pub mod Moving
-- the counts of a move
pub mod Counting
-- rows at one node after the other
pub mod Making
-- what the clauses of a transfer say
pub mod Bringing
-- what a picker is asked
pub mod Asking
-- temporary tables, and trees over them
pub mod Tabled
-- what steps do one after the other
pub mod Standing
-- the steps of a plan for the query
pub mod Executing
-- rows that are returned
pub mod Returning
