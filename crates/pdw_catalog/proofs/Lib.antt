-- What becomes of the rows at the nodes, step by step
pub mod NodeBagsLemmas
-- What a table stores, when it is new and when rows are added
pub mod StoresLemmas
-- Tables and their rows in the same order: the place of a name, and what a change there leaves
pub mod TablesLemmas
-- An appliance before and after a call
pub mod ApplianceLemmas
-- What a new table leaves of the rows of each name
pub mod CreatedLemmas
