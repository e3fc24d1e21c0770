-- The value of a column, read at its place.
use Rattle.std.proofs.Common.{◌≡◌, ℕ, zero, suc, List, [], ◌∷◌, get_or, slice_get, Some, None, refl, sym, ◌∙◌}
use Rattle.pdw_base.specs.Schema.{Columns, place_of, cell}
use Rattle.pdw_base.specs.declared.schema.ColId.{ColId}
use Rattle.pdw_base.specs.declared.value.Value.{Value}
use Rattle.pdw_base.specs.declared.value.Value.TheVariants.{Null}
use Rattle.pdw_base.proofs.RowLaws.{cell-place}

get_or-there : (row : List Value) (i : ℕ) (value : Value) → slice_get row i ≡ Some value → get_or row i Null ≡ value
get_or-there [] i value is = absurd (cc)
get_or-there (x ∷ row) zero value is = cc
get_or-there (x ∷ row) (suc i) value is = get_or-there row i value is

get_or-absent : (row : List Value) (i : ℕ) → slice_get row i ≡ None → get_or row i Null ≡ Null
get_or-absent [] i is = refl
get_or-absent (x ∷ row) zero is = absurd (cc)
get_or-absent (x ∷ row) (suc i) is = get_or-absent row i is

pub cell-there : (c : ColId) (columns : Columns) (row : List Value) (i : ℕ) (value : Value) → place_of c columns ≡ Some i → slice_get row i ≡ Some value → value ≡ cell columns row c
cell-there c columns row i value place is = sym (get_or-there row i value is) ∙ sym (cell-place c columns row i place)

-- a row that is too short has NULL there
pub cell-short : (c : ColId) (columns : Columns) (row : List Value) (i : ℕ) → place_of c columns ≡ Some i → slice_get row i ≡ None → Null ≡ cell columns row c
cell-short c columns row i place is = sym (get_or-absent row i is) ∙ sym (cell-place c columns row i place)
