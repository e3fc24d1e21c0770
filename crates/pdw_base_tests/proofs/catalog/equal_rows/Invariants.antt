use Rattle.std.proofs.Common.{◌≡◌, vec_len}
use Rattle.std.specs.List.{AllByRecursion}
use Rattle.pdw_catalog.specs.Sample.{sample_columns}
use Rattle.pdw_catalog.specs.Table.{FitsTable}
use Rattle.pdw_base_tests.proofs.catalog.equal_rows.Given as goal

abbrev pub invariant-loop-row : goal.invariant-loop-row
invariant-loop-row l = (vec_len l.rows ≡ l._row) × AllByRecursion (FitsTable sample_columns) l.rows.items
