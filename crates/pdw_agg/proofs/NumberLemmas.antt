-- The rows of a schema are decided by the numbers of its columns: kinds play no part.
use Rattle.std.proofs.Common.{◌≡◌, ◌==◌, nat_le, Bool, true, false, List, [], ◌∷◌, ◌++◌, map, fold, refl, sym, ap, ap₂, ◌∙◌, if◌then◌else◌}
use Rattle.std.proofs.lemmas.List.{map-append}
use Rattle.pdw_agg.proofs.MapLemmas.{map-after}
use Rattle.pdw_agg.specs.Made.{made_columns, numbered}
use Rattle.pdw_algebra.specs.Schema.{placed, rising}
use Rattle.pdw_base.specs.Schema.{Columns, Env, row_over}
use Rattle.pdw_base.specs.declared.schema.ColId.{ColId}
use Rattle.pdw_base.specs.declared.value.Kind.{Kind}
use Rattle.pdw_expr.specs.declared.agg.Agg.{Agg}

abbrev number_of : ColId × Kind → ColId
number_of column = column.0

abbrev numbers : Columns → List ColId
numbers columns = map number_of columns

-- ---- numbers by themselves

abbrev placed_number : ColId → List ColId → List ColId
placed_number new [] = new ∷ []
placed_number new (first ∷ rest) = if nat_le new.0 first.0 then (if first.0 == new.0 then first ∷ rest else new ∷ first ∷ rest) else first ∷ placed_number new rest

numbers-placed : (new : ColId × Kind) (columns : Columns) → numbers (placed new columns) ≡ placed_number new.0 (numbers columns)
numbers-placed new [] = refl
numbers-placed new (first ∷ rest) = by (nat_le new.0.0 first.0.0) (first.0.0 == new.0.0) (numbers-placed new rest)
  where
    by : (from same : Bool) → numbers (placed new rest) ≡ placed_number new.0 (numbers rest)
        → numbers (if from then (if same then first ∷ rest else new ∷ first ∷ rest) else first ∷ placed new rest)
        ≡ (if from then (if same then first.0 ∷ numbers rest else new.0 ∷ first.0 ∷ numbers rest) else first.0 ∷ placed_number new.0 (numbers rest))
    by true true later = refl
    by true false later = refl
    by false same later = ap (λ cs. first.0 ∷ cs) later

abbrev rising_numbers : List ColId → List ColId → List ColId
rising_numbers seen cs = fold (λ seen c. placed_number c seen) seen cs

numbers-from : (seen columns : Columns) → numbers (fold (λ seen column. placed column seen) seen columns) ≡ rising_numbers (numbers seen) (numbers columns)
numbers-from seen [] = refl
numbers-from seen (column ∷ columns) =
    numbers-from (placed column seen) columns ∙ ap (λ seen. rising_numbers seen (numbers columns)) (numbers-placed column seen)

numbers-rising : (xs ys : Columns) → numbers xs ≡ numbers ys → numbers (rising xs) ≡ numbers (rising ys)
numbers-rising xs ys same = numbers-from [] xs ∙ ap (rising_numbers []) same ∙ sym (numbers-from [] ys)

-- ---- rows

pub row_over-numbers : (xs ys : Columns) → numbers xs ≡ numbers ys → row_over xs ≡ row_over ys
row_over-numbers xs ys same = λ i env. row env i
  where
    row : (env : Env) → row_over xs env ≡ row_over ys env
    row env = sym (map-after number_of env xs) ∙ ap (map env) same ∙ map-after number_of env ys

module _ (keys : List ColId) (aggs : List Agg) (key : ColId → ColId × Kind) (own : Agg → ColId × Kind)
    (of_key : (c : ColId) → (key c).0 ≡ c) (of_agg : (agg : Agg) → (own agg).0 ≡ agg.out) where
  pub numbers-made : numbers (map numbered keys ++ map (λ (agg : Agg). numbered agg.out) aggs) ≡ numbers (map key keys ++ map own aggs)
  numbers-made =
      map-append number_of (map numbered keys) (map (λ (agg : Agg). numbered agg.out) aggs)
      ∙ ap₂ (λ xs ys. xs ++ ys)
      (map-after numbered number_of keys ∙ sym (λ i. map (λ c. of_key c i) keys) ∙ sym (map-after key number_of keys))
      (map-after (λ (agg : Agg). numbered agg.out) number_of aggs ∙ sym (λ i. map (λ agg. of_agg agg i) aggs) ∙ sym (map-after own number_of aggs))
      ∙ sym (map-append number_of (map key keys) (map own aggs))

  -- made rows stand over any columns of these numbers
  pub row_over-made : row_over (rising (made_columns keys aggs)) ≡ row_over (rising (map key keys ++ map own aggs))
  row_over-made = row_over-numbers _ _ (numbers-rising _ _ numbers-made)
