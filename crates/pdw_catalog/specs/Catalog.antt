-- Tables by name.
use Rattle.std.specs.Prelude.{ℕ, List, Option}
use Rattle.std.specs.Str.{bytes_eq}
use Rattle.std.specs.Map.{lookup}
use Rattle.pdw_catalog.specs.declared.table.Table.{Table}

-- the tables by name, in the order of their creation
abbrev pub Tables : Type 0
Tables = List (List ℕ × Table)

-- the table of a name
abbrev pub table_named : List ℕ → Tables → Option Table
table_named name tables = lookup (bytes_eq name) tables
