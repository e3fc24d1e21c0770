-- Rows with names, and what a reference means in them.
use Rattle.std.proofs.Common.{◌≡◌, Bool, true, false, List, [], ◌∷◌, ◌++◌, length, get_or, filter, cond, Option, Some, None, refl, ap}
use Rattle.std.specs.List.{find}
use Rattle.pdw_syntax.specs.declared.expr.ColRef.{ColRef}
use Rattle.pdw_base.specs.declared.value.Value.{Value}
use Rattle.pdw_base.specs.declared.value.Value.TheVariants.{Null}
use Rattle.pdw_semantics.specs.Environment.{Scope, first_value, fits, labelled, labelled_one, looked_up}
use Rattle.pdw_semantics.specs.declared.labels.Cell.{Cell}
use Rattle.pdw_semantics.specs.declared.labels.Label.{Label}

-- one name more
pub labelled-more : (labels : List Label) (row : List Value) (label : Label)
    → labelled (labels ++ label ∷ []) row ≡ labelled labels row ++ labelled_one label (get_or row (length labels) Null) ∷ []
labelled-more [] [] label = refl
labelled-more [] (value ∷ row) label = refl
labelled-more (first ∷ labels) [] label = ap (λ scope. labelled_one first Null ∷ scope) (labelled-more labels [] label)
labelled-more (first ∷ labels) (value ∷ row) label = ap (λ scope. labelled_one first value ∷ scope) (labelled-more labels row label)

abbrev pub value_or : Value → Option Cell → Value
value_or otherwise None = otherwise
value_or otherwise (Some cell) = cell.value

-- the first of those that pass is the first that is found
pub first_value-find : (otherwise : Value) (test : Cell → Bool) (cells : List Cell) → first_value otherwise (filter test cells) ≡ value_or otherwise (find test cells)
first_value-find otherwise test [] = refl
first_value-find otherwise test (cell ∷ cells) = by (test cell) (first_value-find otherwise test cells)
  where
    by : (b : Bool) → first_value otherwise (filter test cells) ≡ value_or otherwise (find test cells)
        → first_value otherwise (cond b (cell ∷ filter test cells) (filter test cells)) ≡ value_or otherwise (cond b (Some cell) (find test cells))
    by true rest = refl
    by false rest = rest

-- a reference over one scope and those around it
pub looked_up-find : (ref : ColRef) (scope : Scope) (scopes : List Scope) → looked_up ref (scope ∷ scopes) ≡ value_or (looked_up ref scopes) (find (fits ref) scope)
looked_up-find ref scope scopes = first_value-find (looked_up ref scopes) (fits ref) scope
