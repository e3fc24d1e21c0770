use Rattle.std.proofs.Common.{◌≡◌, ℕ, Option, Some, None, IsSome, IsNone, refl}
use Rattle.pdw_base.specs.Schema.{place_of, cell, row_over}
use Rattle.pdw_base.specs.declared.value.Value.TheVariants.{Null}
use Rattle.pdw_base.proofs.RowLaws.{row_over-length, cell-row_over, cell-absent, cell-place, row_over-cell}
use Rattle.pdw_base.proofs.schema.row_over_reads_back.Goals as goal

pub returns-clause-length : goal.returns-clause-length
returns-clause-length c = row_over-length

pub returns-clause-present : goal.returns-clause-present
returns-clause-present c columns env column there = by (place_of column columns) refl there
  where
    by : (found : Option ℕ) → place_of column columns ≡ found → IsSome found → cell columns (row_over columns env) column ≡ env column
    by (Some i) e there = cell-row_over column columns env i e
    by None e there = cc

pub returns-clause-absent : goal.returns-clause-absent
returns-clause-absent c columns row column none = by (place_of column columns) refl none
  where
    by : (found : Option ℕ) → place_of column columns ≡ found → IsNone found → cell columns row column ≡ Null
    by (Some i) e none = cc
    by None e none = cell-absent column columns row e

pub returns-clause-place : goal.returns-clause-place
returns-clause-place c columns row column i there = cell-place column columns row i there

pub returns-clause-back : goal.returns-clause-back
returns-clause-back c = row_over-cell
