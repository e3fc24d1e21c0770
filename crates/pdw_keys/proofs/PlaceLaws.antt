-- A key by places is the key by columns.
use Rattle.std.proofs.Common.{◌≡◌, ℕ, List, [], ◌∷◌, Option, Some, None, refl, sym, ap₂, ◌∙◌}
use Rattle.std.proofs.lemmas.Option.{unwrap_or-slice_get}
use Rattle.pdw_base.proofs.RowLaws.{cell-absent, cell-place}
use Rattle.pdw_base.specs.Schema.{Columns, cell, place_of}
use Rattle.pdw_base.specs.declared.schema.ColId.{ColId}
use Rattle.pdw_base.specs.declared.value.Value.{Value}
use Rattle.pdw_base.specs.declared.value.Value.TheVariants.{Null}
use Rattle.pdw_expr.specs.Rows.{key_of}
use Rattle.pdw_keys.specs.Places.{key_at, places_of, value_at}

pub value_at-cell : (columns : Columns) (row : List Value) (c : ColId) → value_at row (place_of c columns) ≡ cell columns row c
value_at-cell columns row c = by (place_of c columns) refl
  where
    by : (place : Option ℕ) → place_of c columns ≡ place → value_at row place ≡ cell columns row c
    by None absent = sym (cell-absent c columns row absent)
    by (Some place) there = unwrap_or-slice_get row place Null ∙ sym (cell-place c columns row place there)

pub key_at-key_of : (columns : Columns) (keys : List ColId) (row : List Value) → key_at (places_of columns keys) row ≡ key_of keys (cell columns row)
key_at-key_of columns [] row = refl
key_at-key_of columns (key ∷ keys) row = ap₂ (λ first rest. first ∷ rest) (value_at-cell columns row key) (key_at-key_of columns keys row)
