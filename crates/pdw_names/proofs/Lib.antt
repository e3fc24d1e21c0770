-- What the law of names and numbers says of each part of a statement: of its walk and of its meaning
pub mod Relations
-- The steps of the walk
pub mod WalkLaws
-- Column references: the column that the walk meets has the value that the names mean
pub mod LookupLaws
-- What is read of a row after several steps: expressions and tests one after another
pub mod ReadLaws
-- Value expressions
pub mod ExprMeaningLaws
-- The conjuncts of a condition that has no subquery conjuncts: those of ON and of HAVING
pub mod TestedLaws
-- Conditions, one lemma for each variant: from what the parts mean to what the condition means
pub mod CondMeaningLaws
-- A table that FROM names: its whole rows, named and numbered
pub mod TableMeaningLaws
-- A query in FROM: its rows, read again under its alias
pub mod DerivedMeaningLaws
-- Joined tables: their rows, named and numbered
pub mod JoinMeaningLaws
-- The elements of FROM, one lemma for each layer: from what its parts mean to what it means
pub mod FromMeaningLaws
-- The elements of FROM side by side: each named row shows the union of the numbered ones
pub mod SideBySide
-- The walk of a query, taken into its parts
pub mod QueryParts
-- WHERE: the conjuncts of the three kinds hold where the condition by names is True
pub mod WhereLaws
-- The rows of a query: those that WHERE keeps, and those that HAVING keeps
pub mod KeptLaws
-- Groups: the rows of a group by names, and the row that stands for it by numbers
pub mod GroupLaws
-- The items of a query: their names, and their values from the numbered row
pub mod ItemLaws
-- The rows that a query gives, by names and by numbers
pub mod RowLaws
-- A query means by names what its numbered form means
pub mod QueryMeaningLaws
-- The induction over queries and what stands in them: each part's walk and meaning agree
pub mod Induction
-- The law of names and numbers: a SELECT means by names what its judged form means by numbers
pub mod NamesLaw
-- The output names and the order keys of a judged SELECT are those of its meaning by names
pub mod OutputNames
-- The order keys of a judged SELECT are those that its ORDER BY means
pub mod OrderKeys
-- The output names and the order of a judged SELECT are those of its meaning by names
pub mod SelectNames
-- The law of names and numbers, of the statements that the judgement accepts
pub mod AcceptedLaw
