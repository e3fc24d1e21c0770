-- Keys, items and rows each once give the same groups, the same rows and the same distinct rows
pub mod OnceLaws
-- A subquery conjunct keeps the rows that its join keeps: EXISTS and IN are Semi joins, NOT EXISTS and NOT IN Anti joins
pub mod SubqueryRows
-- FROM: the rows of an element are those of its leaves side by side for which its conjuncts hold
pub mod TreeFromLaws
-- Queries: the tree of a query gives the rows of its numbered form
pub mod TreeLaws
-- The induction over queries and what stands in them: where the form of a query is sound, its tree gives its rows
pub mod TreeMeaning
-- What has a kind over some columns has it over more of them: so what is well-typed over a part is well-typed over the whole
pub mod ShapeKinds
-- Leaves of a block: each is sound, they have no number in common, and conjuncts over all their columns are well-typed
pub mod ShapeLeaves
-- The shape of each operator by those of its children, and the kinds of the conditions that a subquery's join has
pub mod ShapeSteps
-- Numbers and items each once
pub mod ShapeKeys
-- The shapes of the elements of FROM, of their joins, and of the block that they make
pub mod ShapeFrom
-- The shape of a subquery's join: it keeps the columns of the tree so far
pub mod ShapeSubqueries
-- The shapes of the trees of a query: FROM and WHERE, groups, output columns and DISTINCT
pub mod ShapeQueries
-- The tree of a sound numbered form is well-formed
pub mod WellFormedLaws
-- The nodes of each operator by those of its children
pub mod NodesSteps
-- The nodes of the tree of a query, by the table references and the queries of its numbered form
pub mod NodesLaws
-- The induction over queries and what stands in them: the nodes of a tree by the counts of its form
pub mod NodesInduction
-- In a tree whose nodes are well-formed there are more scans than joins, and no more blocks than leaves
pub mod NodesShapes
-- At most so many nodes of each kind stand in the tree of a sound form
pub mod NodesBounds
