-- Tables with names of their own.
use Rattle.std.specs.Prelude.{◌≡◌, ⊤, [], ◌∷◌, None}
use Rattle.pdw_catalog.specs.Catalog.{Tables, table_named}

-- no two tables have one name
abbrev pub HaveOwnNames : Tables → Type 0
HaveOwnNames [] = ⊤
HaveOwnNames (entry ∷ tables) = (table_named entry.0 tables ≡ None) × HaveOwnNames tables
