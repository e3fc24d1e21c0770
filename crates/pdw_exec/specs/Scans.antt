-- Where the columns that are read of a table stand in its rows.
use Rattle.std.specs.Prelude.{◌==◌, ℕ, List, [], ◌∷◌, map, Option, Some, None, if◌then◌else◌}
use Rattle.pdw_base.specs.Schema.{Columns}
use Rattle.pdw_base.specs.declared.schema.ColId.{ColId}

-- the place that a column is read at; of several columns with its number the first counts
abbrev pub place_in : List (ColId × ℕ) → ColId → Option ℕ
place_in [] c = None
place_in (col ∷ cols) c = if col.0.0 == c.0 then Some col.1 else place_in cols c

abbrev pub places_in : List (ColId × ℕ) → Columns → List (Option ℕ)
places_in cols columns = map (λ column. place_in cols column.0) columns
