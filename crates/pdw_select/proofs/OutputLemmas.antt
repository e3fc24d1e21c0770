-- Rows that are read at the places of the output columns are read by these columns, one row after the other.
use Rattle.std.proofs.Common.{◌≡◌, ◌<◌, ◌+◌, ℕ, List, [], ◌∷◌, ◌++◌, map, take, get_or, length, Option, refl, sym, ap, ap₂, ◌∙◌, append_assoc}
use Rattle.pdw_base.proofs.Steps.{map-one_more}
use Rattle.pdw_base.specs.Schema.{Columns, cell}
use Rattle.pdw_base.specs.declared.schema.ColId.{ColId}
use Rattle.pdw_base.specs.declared.value.Value.{Value}
use Rattle.pdw_expr.specs.Rows.{key_of}
use Rattle.pdw_keys.proofs.PlaceLaws.{key_at-key_of}
use Rattle.pdw_keys.specs.Places.{key_at, places_of}

module _ (columns : Columns) (outs : List ColId) where
  rows-placed : (rows : List (List Value)) → map (key_at (places_of columns outs)) rows ≡ map (key_of outs) (map (cell columns) rows)
  rows-placed [] = refl
  rows-placed (row ∷ rows) = ap₂ (λ first rest. first ∷ rest) (key_at-key_of columns outs row) (rows-placed rows)

  pub rows-read : (places : List (Option ℕ)) → places ≡ places_of columns outs → (rows : List (List Value)) → map (key_at places) rows ≡ map (key_of outs) (map (cell columns) rows)
  rows-read places is rows = ap (λ (at : List (Option ℕ)). map (key_at at) rows) is ∙ rows-placed rows

-- one row more
pub rows-more : (read : List Value → List Value) (bag : List (List Value)) (i : ℕ) (row : List Value) → i < length bag → row ≡ get_or bag i row
    → (before now next : List (List Value)) (output : List Value) → now ≡ before ++ map read (take i bag) → output ≡ read row → next ≡ now ++ output ∷ [] → next ≡ before ++ map read (take (i + 1) bag)
rows-more read bag i row within item before now next output so_far is grown =
    grown
    ∙ ap₂ (λ (rows : List (List Value)) (last : List Value). rows ++ last ∷ []) so_far is
    ∙ append_assoc before (map read (take i bag)) (read row ∷ [])
    ∙ ap (λ (rows : List (List Value)). before ++ rows) (sym (map-one_more bag i row within item read))
