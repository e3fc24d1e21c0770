-- The key of a positional row, by the places of its columns.
use Rattle.std.specs.Prelude.{ℕ, List, map, Option, Some, None, slice_get}
use Rattle.std.specs.Option.{unwrap_or}
use Rattle.pdw_base.specs.Schema.{Columns, place_of}
use Rattle.pdw_base.specs.declared.schema.ColId.{ColId}
use Rattle.pdw_base.specs.declared.value.Value.{Value}
use Rattle.pdw_base.specs.declared.value.Value.TheVariants.{Null}

abbrev pub places_of : Columns → List ColId → List (Option ℕ)
places_of columns keys = map (λ key. place_of key columns) keys

-- a column that a row does not have is NULL
abbrev pub value_at : List Value → Option ℕ → Value
value_at row None = Null
value_at row (Some place) = unwrap_or (slice_get row place) Null

abbrev pub key_at : List (Option ℕ) → List Value → List Value
key_at places row = map (value_at row) places
