-- folds over local trees
pub mod LocalFolds
-- rows stand for the environments that they are made of
pub mod CellLemmas
-- rows that fit their columns
pub mod FitLemmas
-- what each operator gives
pub mod GivesLemmas
-- the rows of a table at a node
pub mod NodeLemmas
-- the rows of a temporary table
pub mod TempLemmas
-- what a tree gives
pub mod RunLemmas
-- one step of a loop
pub mod StepLemmas
-- small trees worked out by hand
mod HandRows
-- equal bags
pub mod OrderLaws
