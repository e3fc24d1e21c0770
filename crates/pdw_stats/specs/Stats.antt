-- Statistics of a table: how many rows it has, and of each column how many different values, and how wide they are.
use Rattle.std.specs.Prelude.{ℕ, ◌≤◌, map}
use Rattle.std.specs.List.{AllByRecursion}
use Rattle.pdw_base.specs.declared.value.Kind.{Kind}
use Rattle.pdw_base.specs.declared.value.Kind.TheVariants as kind
use Rattle.pdw_catalog.specs.declared.table.Table.{Table}
use Rattle.pdw_stats.specs.declared.stats.ColStat.{ColStat}
use Rattle.pdw_stats.specs.declared.stats.Stats.{Stats}
use Rattle.pdw_stats.specs.declared.stats.TheConstants.{MOST_ROWS, MOST_DISTINCT, MOST_WIDTH}

-- a column has 1 to 10^12 different values, and a width of 1 to 1,000
pub record IsColumnInRange (column : ColStat) : Type 0 where
  pub some_distinct : 1 ≤ column.distinct
  pub most_distinct : column.distinct ≤ MOST_DISTINCT
  pub some_width : 1 ≤ column.width
  pub most_width : column.width ≤ MOST_WIDTH

-- there are 0 to 10^12 rows, and each column is in its ranges
pub record IsInRange (stats : Stats) : Type 0 where
  pub rows : stats.rows ≤ MOST_ROWS
  pub cols : AllByRecursion IsColumnInRange stats.cols

-- the width of a column of which nothing is known. A wide number stands in no table.
abbrev pub usual_width : Kind → ℕ
usual_width kind.Int = 8
usual_width kind.Text = 32
usual_width kind.Wide = 16

-- a table of which nothing is known has 1,000 rows, and 100 different values in each column
abbrev pub usual_stats : Table → Stats
usual_stats table = record { rows = 1000; cols = map (λ column. record { distinct = 100; width = usual_width column.kind }) table.columns }
