-- The statistics that a whole table has.
use Rattle.std.specs.Prelude.{ℕ, ◌==◌, Bool, true, false, List, length, map, max, Option, if◌then◌else◌}
use Rattle.std.specs.Int.{div_ceil}
use Rattle.std.specs.List.{enumerate_from, filter, sum_by}
use Rattle.std.specs.Option.{option_map}
use Rattle.std.specs.Ordering.{eq_by_cmp}
use Rattle.std.specs.Set.{distinct_count}
use Rattle.pdw_base.specs.Comparison.{value_cmp}
use Rattle.pdw_base.specs.declared.value.Kind.{Kind}
use Rattle.pdw_base.specs.declared.value.Value.{Value}
use Rattle.pdw_base.specs.declared.value.Value.TheVariants.{Null, Int, Text, Wide}
use Rattle.pdw_catalog.specs.Appliance.{Contents, whole_of}
use Rattle.pdw_catalog.specs.Catalog.{table_named}
use Rattle.pdw_catalog.specs.Table.{Row, value_at}
use Rattle.pdw_catalog.specs.declared.table.Column.{Column}
use Rattle.pdw_stats.specs.Stats.{usual_width}
use Rattle.pdw_stats.specs.declared.stats.ColStat.{ColStat}
use Rattle.pdw_stats.specs.declared.stats.Stats.{Stats}

-- how many bytes a value takes: a number 8, a text its own, NULL 1
abbrev pub bytes_of : Value → ℕ
bytes_of Null = 1
bytes_of (Int n) = 8
bytes_of (Text text) = length text
bytes_of (Wide n) = 16

abbrev pub is_known : Value → Bool
is_known Null = false
is_known (Int n) = true
is_known (Text text) = true
is_known (Wide n) = true

abbrev pub same_value : Value → Value → Bool
same_value = eq_by_cmp value_cmp

-- how many different values there are, of which NULL is none
abbrev pub known_values : List Value → ℕ
known_values values = distinct_count same_value (filter is_known values)

-- the bytes of a value on the average, rounded up and at least 1; where there is no value, the width of which nothing is known
abbrev pub mean_width : Kind → List Value → ℕ
mean_width kind values = if length values == 0 then usual_width kind else max 1 (div_ceil (sum_by bytes_of values) (length values))

-- a column of these values
abbrev pub measured_column : Kind → List Value → ColStat
measured_column kind values = record { distinct = max 1 (known_values values); width = mean_width kind values }

-- the values in the column of a place, counted from 0
abbrev pub column_at : ℕ → List Row → List Value
column_at place rows = map (value_at place) rows

-- a table with these columns and rows
abbrev pub measured : List Column → List Row → Stats
measured columns rows = record {
  rows = length rows;
  cols = map (λ numbered. measured_column numbered.1.kind (column_at numbered.0 rows)) (enumerate_from 0 columns);
}

-- the whole of a named table
abbrev pub measured_table : List ℕ → Contents → Option Stats
measured_table name contents = option_map (λ table. measured table.columns (whole_of name contents)) (table_named name contents.tables)
