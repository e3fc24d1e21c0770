-- Lists of three items
pub mod WordLemmas
-- A script says at most one thing
pub mod ReadingLemmas
-- The statements of a script are written whole
pub mod WrittenScripts
-- What a statement does in the session, as the script tells it
pub mod PerformLemmas
-- Statements that are executed one after the other
pub mod RunLemmas
-- A run that meets no fault is done, or wants memory; one that cannot be done is refused, or wants memory
pub mod CompleteLemmas
-- Every EXPLAIN has a text
pub mod Explained
-- Any rows can be put into an order that the keys allow
pub mod OrderedRows
-- The judgement has no want of memory as a fault: whatever it refuses, it names
pub mod NamedSteps
-- The judgement has no want of memory as a fault: conditions, FROM, WHERE and items
pub mod NamedQueries
-- The judgement has no want of memory as a fault: queries with all that can be nested in them, and statements
pub mod NamedStatements
-- Every statement can be executed or is refused, so what was written can be gone on with to a whole output
pub mod WholeLemmas
-- Over files that tell every name, no script has both a finished output and one that ends with a refusal
pub mod OneEnd
