-- The size of a group: its rows, and the width of its schema.
use Rattle.std.specs.Prelude.{ℕ, ◌*◌, ◌≤◌, List, [], ◌∷◌, map, max, min}
use Rattle.std.specs.List.{sum_by}
use Rattle.pdw_algebra.specs.Schema.{rising}
use Rattle.pdw_algebra.specs.Shape.{columns_of}
use Rattle.pdw_base.specs.Schema.{Columns}
use Rattle.pdw_base.specs.declared.schema.ColId.{ColId}
use Rattle.pdw_catalog.specs.Catalog.{Tables}
use Rattle.pdw_groups.specs.Columns.{partial_schema}
use Rattle.pdw_groups.specs.Meaning.{Meaning, exactly, partial_of}
use Rattle.pdw_groups.specs.Memo.{Contents}
use Rattle.pdw_memo.specs.Laws.{meanings_in}
use Rattle.pdw_memo.specs.Memo.{IsMemo}
use Rattle.pdw_sizes.specs.Estimate.{ColStats, aggregate_columns, estimate, key_rows, width_in}
use Rattle.pdw_sizes.specs.declared.size.Size.{Size}
use Rattle.pdw_sizes.specs.declared.size.TheConstants.{WIDEST}
use Rattle.pdw_stats.specs.Book.{Book}
use Rattle.pdw_stats.specs.declared.stats.TheConstants.{MOST_ROWS}

abbrev pub schema_of_meaning : Tables → Meaning → Columns
schema_of_meaning tables (exactly tree) = rising (columns_of tables tree)
schema_of_meaning tables (partial_of keys aggs tree) = partial_schema keys aggs (rising (columns_of tables tree))

-- the sum of the columns' widths, at least 1 and at most the greatest width
abbrev pub width_of_schema : ColStats → Columns → ℕ
width_of_schema columns schema = min WIDEST (max 1 (sum_by (λ column. width_in columns column.0) schema))

-- each of n nodes has a partial row for each list of key values, but not more rows than there are; without keys it has one
abbrev pub partial_rows : ℕ → ℕ → ℕ → List ColId → ℕ
partial_rows n groups rows [] = n
partial_rows n groups rows (key ∷ keys) = min rows (n * groups)

-- counts and sums have 16 bytes in partial rows
abbrev pub columns_of_meaning : Book → Meaning → ColStats
columns_of_meaning book (exactly tree) = (estimate book tree).columns
columns_of_meaning book (partial_of keys aggs tree) = aggregate_columns 16 (estimate book tree).columns aggs

module _ (book : Book) (n : ℕ) where
  abbrev pub rows_of_meaning : Meaning → ℕ
  rows_of_meaning (exactly tree) = (estimate book tree).rows
  rows_of_meaning (partial_of keys aggs tree) = partial_rows n (key_rows (estimate book tree).columns (estimate book tree).rows keys) (estimate book tree).rows keys

  -- a group with this schema
  abbrev pub size_with : Columns → Meaning → Size
  size_with schema means = record { rows = rows_of_meaning means; width = width_of_schema (columns_of_meaning book means) schema }

  abbrev pub size_of_meaning : Tables → Meaning → Size
  size_of_meaning tables means = size_with (schema_of_meaning tables means) means

-- the sizes of a memo's groups, by number
abbrev pub sizes_in : (contents : Contents) → IsMemo contents → Book → ℕ → List Size
sizes_in contents memo book n = map (size_of_meaning book n memo.tables) (meanings_in contents memo)

-- there are 0 to 10^12 rows, and a width of 1 to the greatest
pub record IsSizeInRange (size : Size) : Type 0 where
  pub rows : size.rows ≤ MOST_ROWS
  pub some_width : 1 ≤ size.width
  pub most_width : size.width ≤ WIDEST
