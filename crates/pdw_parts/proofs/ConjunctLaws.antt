-- Conjuncts inside two sets of leaves and those between them are the conjuncts inside both sets together.
use Rattle.std.proofs.Common.{◌≡◌, Bool, true, false, cond, not, ◌&&◌, ◌||◌, List, [], ◌∷◌, ◌++◌, filter, refl, sym, ap, ap₂, ◌∙◌, true≢false}
use Rattle.std.specs.List.{list_all}
use Rattle.std.proofs.lemmas.Bool.{and_parts}
use Rattle.std.proofs.lemmas.List.Folds.{list_all-append}
use Rattle.pdw_algebra.proofs.Used.{CondsUse}
use Rattle.pdw_algebra.proofs.WithinLaws.{UsesOnly, is_met, meets-all}
use Rattle.pdw_algebra.specs.Shape.{has_number}
use Rattle.pdw_base.specs.Schema.{Columns, Env}
use Rattle.pdw_base.specs.declared.schema.ColId.{ColId}
use Rattle.pdw_expr.specs.Columns.{cond_columns}
use Rattle.pdw_expr.specs.Rows.{meets}
use Rattle.pdw_expr.specs.declared.cond.Cond.{Cond}
use Rattle.pdw_parts.proofs.ChosenLaws.{has-either}
use Rattle.pdw_parts.specs.Part.{LeafSet, between, columns_in, either, inside, is_between, is_inside}

-- ---- tests over filtered lists

module _ {X : Type 0} where
  list_all-filter : (test kept : X → Bool) (xs : List X) → list_all test (filter kept xs) ≡ list_all (λ x. not (kept x) || test x) xs
  list_all-filter test kept [] = refl
  list_all-filter test kept (x ∷ xs) = by (kept x) (list_all-filter test kept xs)
    where
      by : (b : Bool) → list_all test (filter kept xs) ≡ list_all (λ x. not (kept x) || test x) xs
          → list_all test (cond b (x ∷ filter kept xs) (filter kept xs)) ≡ ((not b || test x) && list_all (λ x. not (kept x) || test x) xs)
      by true rest = ap (λ all. test x && all) rest
      by false rest = rest

  list_all-both : (f g : X → Bool) (xs : List X) → (list_all f xs && list_all g xs) ≡ list_all (λ x. f x && g x) xs
  list_all-both f g [] = refl
  list_all-both f g (x ∷ xs) = swap (f x) (list_all f xs) (g x) (list_all g xs) ∙ ap (λ all. (f x && g x) && all) (list_all-both f g xs)
    where
      swap : (a b c d : Bool) → ((a && b) && (c && d)) ≡ ((a && c) && (b && d))
      swap true true c d = refl
      swap true false true d = refl
      swap true false false d = refl
      swap false b c d = refl

  list_all-same : (f g : X → Bool) → ((x : X) → f x ≡ g x) → (xs : List X) → list_all f xs ≡ list_all g xs
  list_all-same f g same [] = refl
  list_all-same f g same (x ∷ xs) = ap₂ (λ a b. a && b) (same x) (list_all-same f g same xs)

-- ---- conjuncts inside some columns use these alone

uses : (columns : Columns) (used : List ColId) → list_all (λ c. has_number c columns) used ≡ true → UsesOnly columns used
uses columns [] all = tt
uses columns (c ∷ used) all =
    let parts = and_parts (has_number c columns) (list_all (λ c. has_number c columns) used) all in
    (parts.0, uses columns used parts.1)

pub inside-use : (columns : Columns) (conds : List Cond) → CondsUse columns (filter (is_inside columns) conds)
inside-use columns [] = tt
inside-use columns (x ∷ conds) = by (is_inside columns x) refl (inside-use columns conds)
  where
    by : (b : Bool) → is_inside columns x ≡ b → CondsUse columns (filter (is_inside columns) conds)
        → CondsUse columns (cond b (x ∷ filter (is_inside columns) conds) (filter (is_inside columns) conds))
    by true is rest = (uses columns (cond_columns x) is, rest)
    by false is rest = rest

-- ---- a conjunct inside a set of leaves is inside a greater one

all-more : (p q : ColId → Bool) → ((c : ColId) → p c ≡ true → q c ≡ true) → (used : List ColId) → list_all p used ≡ true → list_all q used ≡ true
all-more p q more [] all = refl
all-more p q more (c ∷ used) all =
    let parts = and_parts (p c) (list_all p used) all in
    ap₂ (λ a b. a && b) (more c parts.0) (all-more p q more used parts.1)

or_left : (a b : Bool) → a ≡ true → (a || b) ≡ true
or_left true b is = refl
or_left false b is = absurd (true≢false (sym is))

or_right : (a b : Bool) → b ≡ true → (a || b) ≡ true
or_right true b is = refl
or_right false b is = is

module _ (left right : LeafSet) (leaves : List Columns) (x : Cond) where
  inside-left : is_inside (columns_in left leaves) x ≡ true → is_inside (columns_in (either left right) leaves) x ≡ true
  inside-left = all-more (λ c. has_number c (columns_in left leaves)) (λ c. has_number c (columns_in (either left right) leaves))
      (λ c there. has-either c left right leaves ∙ or_left (has_number c (columns_in left leaves)) (has_number c (columns_in right leaves)) there) (cond_columns x)

  inside-right : is_inside (columns_in right leaves) x ≡ true → is_inside (columns_in (either left right) leaves) x ≡ true
  inside-right = all-more (λ c. has_number c (columns_in right leaves)) (λ c. has_number c (columns_in (either left right) leaves))
      (λ c there. has-either c left right leaves ∙ or_right (has_number c (columns_in left leaves)) (has_number c (columns_in right leaves)) there) (cond_columns x)

-- ---- each conjunct inside both sets together is tested at one of the three places

-- inside the left set, the right one and both together, and whether a row meets it
places : (l r b m : Bool) → (l ≡ true → b ≡ true) → (r ≡ true → b ≡ true)
    → (((not l || m) && (not r || m)) && (not (b && (not l && not r)) || m)) ≡ (not b || m)
places true r false m left right = absurd (true≢false (sym (left refl)))
places false true false m left right = absurd (true≢false (sym (right refl)))
places false false false m left right = refl
places true true true true left right = refl
places true true true false left right = refl
places true false true true left right = refl
places true false true false left right = refl
places false true true true left right = refl
places false true true false left right = refl
places false false true m left right = refl

module _ (left right : LeafSet) (leaves : List Columns) (row : Env) where
  abbrev met : Cond → Bool
  met = is_met row

  abbrev in_left : Cond → Bool
  in_left = is_inside (columns_in left leaves)

  abbrev in_right : Cond → Bool
  in_right = is_inside (columns_in right leaves)

  abbrev in_both : Cond → Bool
  in_both = is_inside (columns_in (either left right) leaves)

  pub meets-both : (conds : List Cond)
      → meets ((inside left leaves conds ++ inside right leaves conds) ++ between left right leaves conds) row ≡ meets (inside (either left right) leaves conds) row
  meets-both conds =
      meets-all ((inside left leaves conds ++ inside right leaves conds) ++ between left right leaves conds) row
      ∙ list_all-append met (inside left leaves conds ++ inside right leaves conds) (between left right leaves conds)
      ∙ ap (λ b. b && list_all met (between left right leaves conds)) (list_all-append met (inside left leaves conds) (inside right leaves conds))
      ∙ ap₂ (λ a b. a && b)
      (ap₂ (λ a b. a && b) (list_all-filter met in_left conds) (list_all-filter met in_right conds) ∙ list_all-both (λ x. not (in_left x) || met x) (λ x. not (in_right x) || met x) conds)
      (list_all-filter met (is_between left right leaves) conds)
      ∙ list_all-both (λ x. (not (in_left x) || met x) && (not (in_right x) || met x)) (λ x. not (is_between left right leaves x) || met x) conds
      ∙ list_all-same (λ x. ((not (in_left x) || met x) && (not (in_right x) || met x)) && (not (is_between left right leaves x) || met x)) (λ x. not (in_both x) || met x)
      (λ x. places (in_left x) (in_right x) (in_both x) (met x) (inside-left left right leaves x) (inside-right left right leaves x)) conds
      ∙ sym (list_all-filter met in_both conds)
      ∙ sym (meets-all (inside (either left right) leaves conds) row)
