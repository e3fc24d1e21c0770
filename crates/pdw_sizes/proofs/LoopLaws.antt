-- One step of the loops over conjuncts, keys, columns and leaves.
use Rattle.std.proofs.Common.{◌≡◌, ℕ, zero, suc, ◌+◌, ◌<◌, Bool, true, false, true≢false, cond, List, [], ◌∷◌, ◌++◌, length, filter, fold, Some, None, is_some, take, get_or, refl, ap, subst, ◌∙◌, arith, length-take, if◌then◌else◌}
use Rattle.std.specs.List.{AllByRecursion, sum_by}
use Rattle.std.specs.Map.{lookup}
use Rattle.std.specs.Option.{option_or}
use Rattle.std.proofs.lemmas.List.{take_more}
use Rattle.std.proofs.lemmas.List.Sums.{fold-append, sum_by-append}
use Rattle.pdw_base.proofs.Steps.{filter-one_more, fold-one_more}
use Rattle.pdw_base.specs.declared.schema.ColId.{ColId}
use Rattle.pdw_expr.specs.declared.cond.Cond.{Cond}
use Rattle.pdw_groups.proofs.SetLemmas.{chosen-push}
use Rattle.pdw_groups.specs.Meaning.{Meaning}
use Rattle.pdw_groups.specs.declared.key.GroupId.{GroupId}
use Rattle.pdw_parts.specs.Part.{LeafSet, chosen}
use Rattle.pdw_sizes.specs.Divisor.{divisor}
use Rattle.pdw_sizes.specs.Estimate.{ColStats, both_columns, distinct_in, divided, rows_left, times}
use Rattle.pdw_sizes.specs.Numbered.{columns_at, key_lists, rows_at, set_columns, set_rows}
use Rattle.pdw_stats.specs.Book.{Book}

-- ---- look-ups

module _ {K X : Type 0} (test : K → Bool) where
  pub lookup-here : (xs : List (K × X)) (i : ℕ) (d : K × X) → i < length xs → lookup test (take i xs) ≡ None → test (get_or xs i d).0 ≡ true → lookup test xs ≡ Some (get_or xs i d).1
  lookup-here [] i d within none is = absurd (omega (arith, within))
  lookup-here (x ∷ xs) zero d within none is = ap (λ b. cond b (Some x.1) (lookup test xs)) is
  lookup-here (x ∷ xs) (suc i) d within none is = by (test x.0) none (lookup-here xs i d (omega (arith, within)))
    where
      by : (b : Bool) → cond b (Some x.1) (lookup test (take i xs)) ≡ None → (lookup test (take i xs) ≡ None → test (get_or xs i d).0 ≡ true → lookup test xs ≡ Some (get_or xs i d).1)
          → cond b (Some x.1) (lookup test xs) ≡ Some (get_or xs i d).1
      by true none rest = absurd (true≢false (ap is_some none))
      by false none rest = rest none is

  pub lookup-past : (xs : List (K × X)) (i : ℕ) (d : K × X) → i < length xs → lookup test (take i xs) ≡ None → test (get_or xs i d).0 ≡ false → lookup test (take (i + 1) xs) ≡ None
  lookup-past xs i d within none is = let one : i + 1 ≡ suc i = omega arith in ap (λ n. lookup test (take n xs)) one ∙ past xs i within none is
    where
      past : (xs : List (K × X)) (i : ℕ) → i < length xs → lookup test (take i xs) ≡ None → test (get_or xs i d).0 ≡ false → lookup test (take (suc i) xs) ≡ None
      past [] i within none is = absurd (omega (arith, within))
      past (x ∷ xs) zero within none is = ap (λ b. cond b (Some x.1) None) is
      past (x ∷ xs) (suc i) within none is = by (test x.0) none (past xs i (omega (arith, within)))
        where
          by : (b : Bool) → cond b (Some x.1) (lookup test (take i xs)) ≡ None → (lookup test (take i xs) ≡ None → test (get_or xs i d).0 ≡ false → lookup test (take (suc i) xs) ≡ None)
              → cond b (Some x.1) (lookup test (take (suc i) xs)) ≡ None
          by true none rest = absurd (true≢false (ap is_some none))
          by false none rest = rest none is

-- ---- conjuncts

module _ (columns : ColStats) (rows : ℕ) where
  pub left-more : (conds : List Cond) (i : ℕ) (c : Cond) → i < length conds → c ≡ get_or conds i c
      → rows_left columns rows (take (i + 1) conds) ≡ divided (rows_left columns rows (take i conds)) (divisor (distinct_in columns) c)
  left-more conds i c within item = fold-one_more conds i c within item (λ left cond. divided left (divisor (distinct_in columns) cond)) rows

  pub inside-more : (test : Cond → Bool) (conds : List Cond) (i : ℕ) (c : Cond) → i < length conds → c ≡ get_or conds i c
      → rows_left columns rows (filter test (take (i + 1) conds))
      ≡ (if test c then divided (rows_left columns rows (filter test (take i conds))) (divisor (distinct_in columns) c) else rows_left columns rows (filter test (take i conds)))
  inside-more test conds i c within item =
      ap (rows_left columns rows) (filter-one_more conds i c within item test)
      ∙ fold-append (λ left cond. divided left (divisor (distinct_in columns) cond)) rows (filter test (take i conds)) (if test c then c ∷ [] else [])
      ∙ by (test c)
    where
      by : (b : Bool) → rows_left columns (rows_left columns rows (filter test (take i conds))) (if b then c ∷ [] else [])
          ≡ (if b then divided (rows_left columns rows (filter test (take i conds))) (divisor (distinct_in columns) c) else rows_left columns rows (filter test (take i conds)))
      by true = refl
      by false = refl

-- ---- keys and columns

pub lists-more : (columns : ColStats) (keys : List ColId) (i : ℕ) (d : ColId) → i < length keys
    → key_lists columns (take (i + 1) keys) ≡ times (key_lists columns (take i keys)) (distinct_in columns (get_or keys i d))
lists-more columns keys i d within =
    ap (key_lists columns) (take_more keys i d within) ∙ fold-append (λ product c. times product (distinct_in columns c)) 1 (take i keys) (get_or keys i d ∷ [])

pub sum-more : {X : Type 0} (f : X → ℕ) (xs : List X) (i : ℕ) (d : X) → i < length xs → sum_by f (take (i + 1) xs) ≡ sum_by f (take i xs) + f (get_or xs i d)
sum-more f xs i d within =
    let one : sum_by f (take i xs) + sum_by f (get_or xs i d ∷ []) ≡ sum_by f (take i xs) + f (get_or xs i d) = omega arith in
    ap (sum_by f) (take_more xs i d within) ∙ sum_by-append f (take i xs) (get_or xs i d ∷ []) ∙ one

-- ---- leaves

pub chosen-more : {X : Type 0} (set : LeafSet) (xs : List X) (i : ℕ) (d : X) → i < length xs → chosen set (take (i + 1) xs) ≡ chosen set (take i xs) ++ (if set i then get_or xs i d ∷ [] else [])
chosen-more set xs i d within =
    let same : length (take i xs) ≡ i = omega (arith, length-take i xs, within) in
    ap (chosen set) (take_more xs i d within) ∙ chosen-push set (take i xs) (get_or xs i d) ∙ ap (λ n. chosen set (take i xs) ++ (if set n then get_or xs i d ∷ [] else [])) same

pub chosen-at : {X : Type 0} (P : X → Type 0) (set : LeafSet) (xs : List X) (i : ℕ) (d : X) → AllByRecursion P (chosen set xs) → i < length xs → set i ≡ true → P (get_or xs i d)
chosen-at P set [] i d all within is = absurd (omega (arith, within))
chosen-at P set (x ∷ xs) zero d all within is = (subst (λ b. AllByRecursion P (if b then x ∷ chosen (λ i. set (suc i)) xs else chosen (λ i. set (suc i)) xs)) is all).0
chosen-at P set (x ∷ xs) (suc i) d all within is = chosen-at P (λ i. set (suc i)) xs i d (by (set 0) all) (omega (arith, within)) is
  where
    by : (b : Bool) → AllByRecursion P (if b then x ∷ chosen (λ i. set (suc i)) xs else chosen (λ i. set (suc i)) xs) → AllByRecursion P (chosen (λ i. set (suc i)) xs)
    by true all = all.1
    by false all = all

module _ (book : Book) (meanings : List Meaning) (set : LeafSet) (all : List GroupId) (i : ℕ) (d : GroupId) (within : i < length all) where
  pub columns-more : (c : ColId) → set_columns book meanings (chosen set (take (i + 1) all)) c
      ≡ (if set i then option_or (set_columns book meanings (chosen set (take i all)) c) (columns_at book meanings (get_or all i d).0 c) else set_columns book meanings (chosen set (take i all)) c)
  columns-more c =
      ap (λ ids. set_columns book meanings ids c) (chosen-more set all i d within)
      ∙ ap (λ (columns : ColStats). columns c) (fold-append (λ columns (leaf : GroupId). both_columns columns (columns_at book meanings leaf.0)) (λ c. None) (chosen set (take i all)) (if set i then get_or all i d ∷ [] else []))
      ∙ by (set i)
    where
      by : (b : Bool) → fold (λ columns (leaf : GroupId). both_columns columns (columns_at book meanings leaf.0)) (set_columns book meanings (chosen set (take i all))) (if b then get_or all i d ∷ [] else []) c
          ≡ (if b then option_or (set_columns book meanings (chosen set (take i all)) c) (columns_at book meanings (get_or all i d).0 c) else set_columns book meanings (chosen set (take i all)) c)
      by true = refl
      by false = refl

  pub rows-more : (n : ℕ) → set_rows book meanings n (chosen set (take (i + 1) all))
      ≡ (if set i then times (set_rows book meanings n (chosen set (take i all))) (rows_at book meanings n (get_or all i d).0) else set_rows book meanings n (chosen set (take i all)))
  rows-more n =
      ap (set_rows book meanings n) (chosen-more set all i d within)
      ∙ fold-append (λ rows (leaf : GroupId). times rows (rows_at book meanings n leaf.0)) 1 (chosen set (take i all)) (if set i then get_or all i d ∷ [] else [])
      ∙ by (set i)
    where
      by : (b : Bool) → fold (λ rows (leaf : GroupId). times rows (rows_at book meanings n leaf.0)) (set_rows book meanings n (chosen set (take i all))) (if b then get_or all i d ∷ [] else [])
          ≡ (if b then times (set_rows book meanings n (chosen set (take i all))) (rows_at book meanings n (get_or all i d).0) else set_rows book meanings n (chosen set (take i all)))
      by true = refl
      by false = refl
