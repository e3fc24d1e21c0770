-- The schema of columns is one, so that the schema of a block's leaves is that of their schemas.
use Rattle.std.proofs.Common.{◌≡◌, ℕ, suc, ◌<◌, ◌≤◌, ◌==◌, leb, All, Bool, true, false, List, [], ◌∷◌, ◌++◌, map, Some, None, is_some, refl, sym, ap, ap₂, ◌∙◌, arith, eqb-true, eq-eqb, ne_eqb, true≢false, suc-le-suc, if◌then◌else◌, ◌⊎◌, inl, inr}
use Rattle.std.specs.Bool.{⊤}
use Rattle.std.specs.List.{AllByRecursion, flat_map}
use Rattle.std.specs.Option.{option_or}
use Rattle.std.proofs.lemmas.Bool.{eqb-false, leb-false, leb-true}
use Rattle.std.proofs.lemmas.List.Elements.{All-head, All-tail}
use Rattle.pdw_algebra.proofs.AllLaws.{numbers-same}
use Rattle.pdw_algebra.proofs.PlacedLemmas.{rising-schema}
use Rattle.pdw_algebra.specs.Schema.{kind_at, rising}
use Rattle.pdw_base.specs.Schema.{Columns, IsAscending}
use Rattle.pdw_base.specs.declared.schema.ColId.{ColId}
use Rattle.pdw_base.specs.declared.value.Kind.{Kind}

-- ---- columns by rising numbers

abbrev Ascends : Columns → Type 0
Ascends [] = ⊤
Ascends (column ∷ columns) = AllByRecursion (λ later. column.0.0 < later.0.0) columns × Ascends columns

all-later : (n : ℕ) (columns : Columns) → All (λ later. n < later.0.0) columns → AllByRecursion (λ later. n < later.0.0) columns
all-later n [] all = tt
all-later n (column ∷ columns) all = (All-head (λ later. n < later.0.0) column columns all, all-later n columns (All-tail (λ later. n < later.0.0) column columns all))

ascends : (columns : Columns) → IsAscending columns → Ascends columns
ascends [] ascending = tt
ascends (column ∷ columns) ascending = (
  all-later column.0.0 columns (λ k d within. ascending 0 (suc k) d (omega arith) (suc-le-suc within)),
  ascends columns (λ i j d less within. ascending (suc i) (suc j) d (suc-le-suc less) (suc-le-suc within)),
)

-- a number below all is not there
missing : (n : ℕ) (columns : Columns) (c : ColId) → c.0 ≤ n → AllByRecursion (λ later. n < later.0.0) columns → kind_at columns c ≡ None
missing n [] c less all = refl
missing n (column ∷ columns) c less all =
    ap (λ b. if b then Some column.1 else kind_at columns c) (ne_eqb column.0.0 c.0 (λ same. absurd (omega (arith, same, less, all.0)))) ∙ missing n columns c less all.1

even-less : (m n : ℕ) (columns : Columns) → m ≤ n → AllByRecursion (λ later. n < later.0.0) columns → AllByRecursion (λ later. m < later.0.0) columns
even-less m n [] less all = tt
even-less m n (column ∷ columns) less all = (omega (arith, less, all.0), even-less m n columns less all.1)

here : (column : ColId × Kind) (columns : Columns) (c : ColId) → (column.0.0 == c.0) ≡ true → kind_at (column ∷ columns) c ≡ Some column.1
here column columns c same = ap (λ b. if b then Some column.1 else kind_at columns c) same

elsewhere : (column : ColId × Kind) (columns : Columns) (c : ColId) → (column.0.0 == c.0) ≡ false → kind_at (column ∷ columns) c ≡ kind_at columns c
elsewhere column columns c other = ap (λ b. if b then Some column.1 else kind_at columns c) other

itself : (column : ColId × Kind) (columns : Columns) → kind_at (column ∷ columns) column.0 ≡ Some column.1
itself column columns = here column columns column.0 (eq-eqb column.0.0 column.0.0 refl)

-- a column of the one is not below all of the other
not-below : (x : ColId × Kind) (xs ys : Columns) → AllByRecursion (λ later. x.0.0 < later.0.0) ys → kind_at (x ∷ xs) x.0 ≡ kind_at ys x.0 → ⊥
not-below x xs ys below same = true≢false (ap is_some (sym (itself x xs) ∙ same ∙ missing x.0.0 ys x.0 (omega arith) below))

apart : (m n : ℕ) → (m == n) ≡ false → (m < n) ⊎ (n < m)
apart m n other = by (leb m n) refl
  where
    by : (b : Bool) → leb m n ≡ b → (m < n) ⊎ (n < m)
    by true is =
        let less = leb-true m n is in
        let differs = eqb-false m n other in
        inl (omega (arith, less, differs))
    by false is = let more = leb-false m n is in inr (omega (arith, more))

some-same : {X : Type 0} (a b : X) → Some a ≡ Some b → a ≡ b
some-same a b same = cc

one-schema : (xs ys : Columns) → Ascends xs → Ascends ys → ((c : ColId) → kind_at xs c ≡ kind_at ys c) → xs ≡ ys
one-schema [] [] ax ay same = refl
one-schema [] (y ∷ ys) ax ay same = absurd (true≢false (ap is_some (sym (itself y ys) ∙ sym (same y.0))))
one-schema (x ∷ xs) [] ax ay same = absurd (true≢false (ap is_some (sym (itself x xs) ∙ same x.0)))
one-schema (x ∷ xs) (y ∷ ys) ax ay same = by (x.0.0 == y.0.0) refl (one-schema xs ys ax.1 ay.1)
  where
    tails : (x.0.0 == y.0.0) ≡ true → (c : ColId) → (b : Bool) → (x.0.0 == c.0) ≡ b → kind_at xs c ≡ kind_at ys c
    tails is c true at =
        let first = eqb-true x.0.0 y.0.0 is in
        let second = eqb-true x.0.0 c.0 at in
        missing x.0.0 xs c (omega (arith, second)) ax.0 ∙ sym (missing y.0.0 ys c (omega (arith, first, second)) ay.0)
    tails is c false at =
        sym (elsewhere x xs c at) ∙ same c
        ∙ elsewhere y ys c (ap (λ n. n == c.0) (sym (eqb-true x.0.0 y.0.0 is)) ∙ at)

    order : (x.0.0 < y.0.0) ⊎ (y.0.0 < x.0.0) → ⊥
    order (inl less) = not-below x xs (y ∷ ys) (less, even-less x.0.0 y.0.0 ys (omega (arith, less)) ay.0) (same x.0)
    order (inr more) = not-below y ys (x ∷ xs) (more, even-less y.0.0 x.0.0 xs (omega (arith, more)) ax.0) (sym (same y.0))

    by : (b : Bool) → (x.0.0 == y.0.0) ≡ b → (((c : ColId) → kind_at xs c ≡ kind_at ys c) → xs ≡ ys) → x ∷ xs ≡ y ∷ ys
    by true is rest =
        let number = numbers-same x.0 y.0 is in
        let kind = some-same x.1 y.1 (sym (itself x xs) ∙ same x.0 ∙ here y ys x.0 (eq-eqb y.0.0 x.0.0 (sym (eqb-true x.0.0 y.0.0 is)))) in
        ap₂ (λ z zs. z ∷ zs) (ap₂ (λ (n : ColId) (k : Kind). (n, k)) number kind) (rest (λ c. tails is c (x.0.0 == c.0) refl))
    by false other rest = absurd (order (apart x.0.0 y.0.0 other))

-- ---- columns one list after the other

kind_at-append : (xs ys : Columns) (c : ColId) → kind_at (xs ++ ys) c ≡ option_or (kind_at xs c) (kind_at ys c)
kind_at-append [] ys c = refl
kind_at-append (x ∷ xs) ys c = by (x.0.0 == c.0) (kind_at-append xs ys c)
  where
    by : (b : Bool) → kind_at (xs ++ ys) c ≡ option_or (kind_at xs c) (kind_at ys c)
        → (if b then Some x.1 else kind_at (xs ++ ys) c) ≡ option_or (if b then Some x.1 else kind_at xs c) (kind_at ys c)
    by true rest = refl
    by false rest = rest

all-kinds : (leaves : List Columns) (c : ColId) → kind_at (flat_map (λ columns. columns) (map rising leaves)) c ≡ kind_at (flat_map (λ columns. columns) leaves) c
all-kinds [] c = refl
all-kinds (leaf ∷ leaves) c =
    kind_at-append (rising leaf) (flat_map (λ columns. columns) (map rising leaves)) c
    ∙ ap₂ (λ a b. option_or a b) ((rising-schema leaf).same c) (all-kinds leaves c)
    ∙ sym (kind_at-append leaf (flat_map (λ columns. columns) leaves) c)

pub rising-all : (leaves : List Columns) → rising (flat_map (λ columns. columns) (map rising leaves)) ≡ rising (flat_map (λ columns. columns) leaves)
rising-all leaves =
    let one = rising-schema (flat_map (λ columns. columns) (map rising leaves)) in
    let other = rising-schema (flat_map (λ columns. columns) leaves) in
    one-schema _ _ (ascends _ one.ascending) (ascends _ other.ascending) (λ c. one.same c ∙ all-kinds leaves c ∙ sym (other.same c))
