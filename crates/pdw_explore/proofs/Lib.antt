-- the rule of the budget, worked out by hand
pub mod LevelsRows
-- how many joins a block has at a level
pub mod Totals
pub mod SubsetCounts
pub mod LevelCounts
pub mod SetJoins
pub mod JoinCounts
-- counts of few leaves
pub mod FewLeaves
-- interesting columns of some leaves
pub mod InterestingLaws
-- groups that are gone through
pub mod GrowLaws
pub mod InTurn
pub mod OperatorGrows
pub mod SchemaLaws
pub mod SetGrows
pub mod BlockGrows
pub mod RoomLaws
pub mod TreeGrows
pub mod ExploreLaws
-- for the calls
pub mod Loops
