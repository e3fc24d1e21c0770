-- sets of leaves, and the columns that they have
pub mod ChosenLaws
-- conjuncts inside and between sets of leaves
pub mod ConjunctLaws
-- the rows of leaves side by side, in any order
pub mod ProductLaws
-- the laws of parts
pub mod PartLaws
-- the columns of expressions and conditions, by their parts
pub mod InsideLemmas
