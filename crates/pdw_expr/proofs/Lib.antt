-- The scan of LIKE
pub mod LikeLemmas
-- The test of LIKE decides its rules
pub mod MatchLaws
-- The value of a column, read at its place
pub mod RowLemmas
-- The value of an expression, and the truth of a condition, depend on its columns alone
pub mod ColumnLaws
-- The laws of environments side by side
pub mod EnvLaws
-- Rising rows: a row more, once
pub mod PartLemmas
