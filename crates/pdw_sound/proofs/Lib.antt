-- What the judgement's walk says of the kinds, the ranges and the limits of each part of a statement
pub mod SoundRelations
-- Columns and their kinds side by side, and lists in which each number stands once
pub mod SoundColumns
-- What has its kind at the numbers of a later moment of the walk has it at those of an earlier one, and what was numbered keeps its number
pub mod SoundLater
-- What steps of the walk add to the numbers, and that what has a number was begun before
pub mod Added
-- Numbers of different ranges are different: columns of two ranges are apart, and what two ranges make is distinct
pub mod Ranges
-- What is known of kinds after several steps: expressions and tests one after another
pub mod SoundSteps
-- Value expressions
pub mod SoundExprs
-- Conditions, one lemma for each variant: from what is sound in the parts to a sound condition
pub mod SoundConds
-- A table that FROM names: its columns have their kinds, their numbers are those of its reference, and its scan is sound
pub mod SoundTables
-- A query in FROM: its output columns under an alias, and that it stands alone
pub mod SoundDerived
-- A join: both sides have columns of their own ranges, and ON is well-typed over both
pub mod SoundJoins
-- FROM: its elements, each with its joins, and all of them together
pub mod SoundFrom
-- WHERE: plain conjuncts are typed over FROM's columns, the others with the enclosing query's columns beside them, and each subquery is sound within FROM's columns
pub mod SoundWhere
-- Groups: grouping columns and aggregates have their kinds, and the columns that HAVING and the items may use have theirs
pub mod SoundGroups
-- Output columns, each once: their kinds, and the numbers that the items make
pub mod SoundOutputs
-- The items of a query: each has its kind, and the numbers that they make are new
pub mod SoundItems
-- A query that the walk accepts has a sound numbered form, where its elements and its conditions have
pub mod SoundQueries
-- The induction over queries and what stands in them
pub mod SoundInduction
-- The law of the tree, of the statements that the judgement accepts
pub mod TreeLaw
-- What steps of the walk count: table references and queries, within the limits of a statement
pub mod Tallies
-- What column references and value expressions count: nothing
pub mod KeptExprs
-- What predicates and items count: nothing
pub mod KeptItems
-- What the numbered forms of the walk count: drafts of FROM, subqueries and queries
pub mod CountedForms
-- What conditions, elements of FROM and queries count: what their numbered forms count
pub mod CountedQueries
-- The induction over queries and what stands in them: the walk counts what its numbered form counts
pub mod CountedInduction
-- The limits of a statement: what is judged has at most so many table references and queries
pub mod Limits
