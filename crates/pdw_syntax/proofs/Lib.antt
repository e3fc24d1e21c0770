-- what the texts of each way to make rules mean
pub mod WrittenRules
-- when a part is written whole, one lemma for each variant
pub mod WrittenEquations
-- every statement of the grammar is written whole
pub mod WrittenLaws
