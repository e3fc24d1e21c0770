-- A table for the tests: (a INT, b TEXT), each column with NULL.
use Rattle.std.specs.Prelude.{ℕ, true, List, [], ◌∷◌}
use Rattle.pdw_base.specs.declared.value.Kind.TheVariants as kind
use Rattle.pdw_catalog.specs.declared.table.Column.{Column}
use Rattle.pdw_catalog.specs.declared.table.Placing.{Placing}
use Rattle.pdw_catalog.specs.declared.table.Table.{Table}

abbrev pub sample_columns : List Column
sample_columns = record { name = 97 ∷ []; kind = kind.Int; nullable = true } ∷ record { name = 98 ∷ []; kind = kind.Text; nullable = true } ∷ []

abbrev pub sample_table : List ℕ → Placing → Table
sample_table name placing = record { name = name; columns = sample_columns; placing = placing }
