-- One more leaf of a set.
use Rattle.std.proofs.Common.{◌≡◌, ℕ, suc, ◌+◌, ◌<◌, Bool, true, false, List, [], ◌∷◌, ◌++◌, length, take, get_or, min, refl, ap, ◌∙◌, arith, append-nil, length-take, if◌then◌else◌}
use Rattle.std.specs.List.{flat_map}
use Rattle.std.proofs.lemmas.Grind.{flat_map-append}
use Rattle.std.proofs.lemmas.List.{length-map, map-append}
use Rattle.pdw_base.proofs.Steps.{take-one_more}
use Rattle.pdw_base.specs.Schema.{Columns}
use Rattle.pdw_groups.specs.Sets.{schemas}
use Rattle.pdw_groups.specs.declared.sets.Side.{Side}
use Rattle.pdw_parts.specs.Part.{LeafSet, chosen, columns_in}

pub chosen-push : {X : Type 0} (set : LeafSet) (xs : List X) (x : X) → chosen set (xs ++ x ∷ []) ≡ chosen set xs ++ (if set (length xs) then x ∷ [] else [])
chosen-push set [] x = refl
chosen-push set (y ∷ xs) x = by (set 0) (chosen-push (λ i. set (suc i)) xs x)
  where
    by : (b : Bool) → chosen (λ i. set (suc i)) (xs ++ x ∷ []) ≡ chosen (λ i. set (suc i)) xs ++ (if set (suc (length xs)) then x ∷ [] else [])
        → (if b then y ∷ chosen (λ i. set (suc i)) (xs ++ x ∷ []) else chosen (λ i. set (suc i)) (xs ++ x ∷ []))
        ≡ (if b then y ∷ chosen (λ i. set (suc i)) xs else chosen (λ i. set (suc i)) xs) ++ (if set (suc (length xs)) then x ∷ [] else [])
    by true rest = ap (λ others. y ∷ others) rest
    by false rest = rest

columns-push : (set : LeafSet) (leaves : List Columns) (leaf : Columns) → columns_in set (leaves ++ leaf ∷ []) ≡ columns_in set leaves ++ (if set (length leaves) then leaf else [])
columns-push set leaves leaf =
    ap (flat_map (λ columns. columns)) (chosen-push set leaves leaf)
    ∙ flat_map-append (λ columns. columns) (chosen set leaves) (if set (length leaves) then leaf ∷ [] else [])
    ∙ ap (λ more. columns_in set leaves ++ more) (by (set (length leaves)))
  where
    by : (b : Bool) → flat_map (λ columns. columns) (if b then leaf ∷ [] else []) ≡ (if b then leaf else [])
    by true = append-nil leaf
    by false = refl

pub columns-one_more : (set : LeafSet) (sides : List Side) (i : ℕ) (side : Side) → i < length sides → side ≡ get_or sides i side
    → columns_in set (schemas (take (i + 1) sides)) ≡ columns_in set (schemas (take i sides)) ++ (if set i then side.schema else [])
columns-one_more set sides i side within item =
    ap (λ some. columns_in set (schemas some)) (take-one_more sides i side within item)
    ∙ ap (columns_in set) (map-append (λ (s : Side). s.schema) (take i sides) (side ∷ []))
    ∙ columns-push set (schemas (take i sides)) side.schema
    ∙ ap (λ n. columns_in set (schemas (take i sides)) ++ (if set n then side.schema else []))
    (length-map (take i sides) (λ (s : Side). s.schema) ∙ length-take i sides ∙ (let less : min i (length sides) ≡ i = omega (arith, within) in less))
