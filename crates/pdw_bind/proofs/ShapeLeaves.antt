-- Leaves of a block: each is sound, they have no number in common, and conjuncts over all their columns are well-typed.
use Rattle.std.proofs.Common.{◌≡◌, ◌==◌, true, false, not, List, [], ◌∷◌, ◌++◌, map, refl, sym, subst, ◌∙◌}
use Rattle.std.specs.List.{flat_map, list_all}
use Rattle.std.proofs.lemmas.Bool.{and_parts, and_from, or_from, not-true, not_from_false}
use Rattle.std.proofs.lemmas.List.{map-append}
use Rattle.std.proofs.lemmas.List.Concat.{flat_map-append}
use Rattle.std.proofs.lemmas.List.Folds.{list_all-append, list_any-append, flat_map-map}
use Rattle.pdw_algebra.specs.Shape.{Shape, all_apart, all_typed, are_apart, block_columns, has_number}
use Rattle.pdw_base.specs.Schema.{Columns}
use Rattle.pdw_base.specs.declared.schema.ColId.{ColId}
use Rattle.pdw_bind.proofs.ShapeKinds.{all_carried, within_left, within_right}
use Rattle.pdw_expr.specs.declared.cond.Cond.{Cond}

-- ---- no number in common

pub apart_nothing : (xs : Columns) → are_apart xs [] ≡ true
apart_nothing [] = refl
apart_nothing (x ∷ xs) = apart_nothing xs

absent_both : (c : ColId) (xs ys : Columns) → has_number c xs ≡ false → has_number c ys ≡ false → has_number c (xs ++ ys) ≡ false
absent_both c xs ys first second = list_any-append (λ column. column.0.0 == c.0) xs ys ∙ or_from _ _ first second

-- apart from both is apart from all
apart_both : (xs ys zs : Columns) → are_apart xs ys ≡ true → are_apart xs zs ≡ true → are_apart xs (ys ++ zs) ≡ true
apart_both [] ys zs first second = refl
apart_both (x ∷ xs) ys zs first second =
    let here = and_parts _ _ first in
    let there = and_parts _ _ second in
    and_from _ _ (not_from_false _ (absent_both x.0 ys zs (not-true _ here.0) (not-true _ there.0))) (apart_both xs ys zs here.1 there.1)

apart_parts : (xs ys zs : Columns) → are_apart (xs ++ ys) zs ≡ true → (are_apart xs zs ≡ true) × (are_apart ys zs ≡ true)
apart_parts xs ys zs apart = and_parts _ _ (sym (list_all-append (λ column. not (has_number column.0 zs)) xs ys) ∙ apart)

abbrev flat : List Columns → Columns
flat lists = flat_map (λ columns. columns) lists

-- what has no number in common stays so beside what has none in common with it
pub all_apart-append : (xs ys : List Columns) → all_apart xs ≡ true → all_apart ys ≡ true → are_apart (flat xs) (flat ys) ≡ true → all_apart (xs ++ ys) ≡ true
all_apart-append [] ys first second apart = second
all_apart-append (x ∷ xs) ys first second apart =
    let own = and_parts _ _ first in
    let both = apart_parts x (flat xs) (flat ys) apart in
    let here = subst (λ columns. are_apart x columns ≡ true) (sym (flat_map-append (λ columns. columns) xs ys)) (apart_both x (flat xs) (flat ys) own.0 both.0) in
    and_from _ _ here (all_apart-append xs ys own.1 second both.1)

-- ---- leaves

pub record LeavesSound (leaves : List Shape) (conds : List Cond) : Type 0 where
  pub each : list_all (λ leaf. leaf.sound) leaves ≡ true
  pub apart : all_apart (map (λ leaf. leaf.columns) leaves) ≡ true
  pub typed : all_typed (block_columns leaves) conds ≡ true

pub leaves_none : LeavesSound [] []
leaves_none = record { each = refl; apart = refl; typed = refl }

pub leaves_one : (leaf : Shape) → leaf.sound ≡ true → LeavesSound (leaf ∷ []) []
leaves_one leaf sound = record { each = and_from _ _ sound refl; apart = and_from _ _ (apart_nothing leaf.columns) refl; typed = refl }

-- further conjuncts
pub leaves_more : (leaves : List Shape) (conds on : List Cond) → LeavesSound leaves conds → all_typed (block_columns leaves) on ≡ true → LeavesSound leaves (conds ++ on)
leaves_more leaves conds on sound typed = record {
  each = sound.each;
  apart = sound.apart;
  typed = list_all-append _ conds on ∙ and_from _ _ sound.typed typed;
}

flat-columns : (leaves : List Shape) → flat (map (λ leaf. leaf.columns) leaves) ≡ block_columns leaves
flat-columns leaves = flat_map-map (λ columns. columns) (λ leaf. leaf.columns) leaves

-- the leaves of both sides
pub leaves_both : (xs ys : List Shape) (left right : List Cond) → LeavesSound xs left → LeavesSound ys right
    → are_apart (block_columns xs) (block_columns ys) ≡ true → LeavesSound (xs ++ ys) (left ++ right)
leaves_both xs ys left right first second apart =
    let columns = sym (flat_map-append (λ leaf. leaf.columns) xs ys) in
    let beside = subst (λ l. are_apart l (flat (map (λ leaf. leaf.columns) ys)) ≡ true) (sym (flat-columns xs)) (subst (λ r. are_apart (block_columns xs) r ≡ true) (sym (flat-columns ys)) apart) in
    let lefts = all_carried _ _ (within_left (block_columns xs) (block_columns ys)) left first.typed in
    let rights = all_carried _ _ (within_right (block_columns xs) (block_columns ys) apart) right second.typed in
    record {
      each = list_all-append _ xs ys ∙ and_from _ _ first.each second.each;
      apart = subst (λ lists. all_apart lists ≡ true) (sym (map-append (λ leaf. leaf.columns) xs ys)) (all_apart-append (map (λ leaf. leaf.columns) xs) (map (λ leaf. leaf.columns) ys) first.apart second.apart beside);
      typed = subst (λ all. all_typed all (left ++ right) ≡ true) columns (list_all-append _ left right ∙ and_from _ _ lefts rights);
    }
