-- The schema of some columns has the same numbers, so that what lies apart by columns does by schemas.
use Rattle.std.proofs.Common.{◌≡◌, ◌==◌, ◌&&◌, ◌||◌, Bool, true, false, List, [], ◌∷◌, map, Some, is_some, refl, sym, ap, ap₂, ◌∙◌, if◌then◌else◌}
use Rattle.std.specs.List.{flat_map}
use Rattle.std.proofs.lemmas.Bool.{and_parts}
use Rattle.pdw_algebra.proofs.PlacedLemmas.{rising-schema}
use Rattle.pdw_algebra.proofs.Used.{has_number-append}
use Rattle.pdw_algebra.proofs.WithinLaws.{not_right}
use Rattle.pdw_algebra.specs.Schema.{kind_at, rising}
use Rattle.pdw_algebra.specs.Shape.{all_apart, are_apart, has_number}
use Rattle.pdw_algebra.specs.Within.{AllWithin, IsWithin}
use Rattle.pdw_algebra.proofs.AllLaws.{all-map}
use Rattle.pdw_base.specs.Schema.{Columns, Env}
use Rattle.pdw_base.specs.declared.schema.ColId.{ColId}
use Rattle.pdw_parts.proofs.ChosenLaws.{are_apart-from}

has_number-kind : (c : ColId) (columns : Columns) → has_number c columns ≡ is_some (kind_at columns c)
has_number-kind c [] = refl
has_number-kind c (column ∷ columns) = by (column.0.0 == c.0) (has_number-kind c columns)
  where
    by : (here : Bool) → has_number c columns ≡ is_some (kind_at columns c) → (here || has_number c columns) ≡ is_some (if here then Some column.1 else kind_at columns c)
    by true rest = refl
    by false rest = rest

pub has_number-rising : (c : ColId) (columns : Columns) → has_number c (rising columns) ≡ has_number c columns
has_number-rising c columns = has_number-kind c (rising columns) ∙ ap is_some ((rising-schema columns).same c) ∙ sym (has_number-kind c columns)

within-rising : (columns : Columns) (row : Env) → IsWithin columns row → IsWithin (rising columns) row
within-rising columns row within = record { elsewhere = λ c absent. within.elsewhere c (sym (has_number-rising c columns) ∙ absent) }

pub all-within-rising : (columns : Columns) (rows : List Env) → AllWithin columns rows → AllWithin (rising columns) rows
all-within-rising columns rows all = all-map (IsWithin columns) (IsWithin (rising columns)) (within-rising columns) rows all

pub has_number-all : (c : ColId) (leaves : List Columns) → has_number c (flat_map (λ columns. columns) (map rising leaves)) ≡ has_number c (flat_map (λ columns. columns) leaves)
has_number-all c [] = refl
has_number-all c (leaf ∷ leaves) =
    has_number-append (rising leaf) (flat_map (λ columns. columns) (map rising leaves)) c
    ∙ ap₂ (λ a b. a || b) (has_number-rising c leaf) (has_number-all c leaves)
    ∙ sym (has_number-append leaf (flat_map (λ columns. columns) leaves) c)

pub all_apart-rising : (leaves : List Columns) → all_apart leaves ≡ true → all_apart (map rising leaves) ≡ true
all_apart-rising [] apart = refl
all_apart-rising (leaf ∷ leaves) apart =
    let parts = and_parts (are_apart leaf (flat_map (λ columns. columns) leaves)) (all_apart leaves) apart in
    let first : are_apart (rising leaf) (flat_map (λ columns. columns) (map rising leaves)) ≡ true =
    are_apart-from (rising leaf) (flat_map (λ columns. columns) (map rising leaves))
    (λ c there. has_number-all c leaves ∙ not_right (flat_map (λ columns. columns) leaves) c leaf parts.0 (sym (has_number-rising c leaf) ∙ there)) in
    ap₂ (λ a b. a && b) first (all_apart-rising leaves parts.1)
