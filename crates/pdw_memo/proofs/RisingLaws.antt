-- Columns by rising numbers are given by their kinds, so that the schemas of leaves make the schema of the columns of all leaves.
use Rattle.std.proofs.Common.{◌≡◌, ◌≢◌, ℕ, suc, ◌<◌, ◌≤◌, ◌==◌, Bool, true, false, true≢false, List, [], ◌∷◌, ◌++◌, length, map, get_or, Some, None, is_some, refl, sym, ap, ap₂, ◌∙◌, arith, eqb-true, eq-eqb, ne_eqb, if◌then◌else◌, ◌⊎◌, inl, inr}
use Rattle.std.specs.List.{AllByRecursion, flat_map}
use Rattle.std.specs.Option.{option_or}
use Rattle.std.proofs.lemmas.Bool.{cases_lt}
use Rattle.pdw_algebra.proofs.AllLaws.{all-map, numbers-same}
use Rattle.pdw_algebra.proofs.PlacedLemmas.{rising-schema}
use Rattle.pdw_algebra.specs.Schema.{kind_at, rising}
use Rattle.pdw_base.specs.Schema.{Columns, IsAscending}
use Rattle.pdw_base.specs.declared.schema.ColId.{ColId}
use Rattle.pdw_base.specs.declared.value.Kind.{Kind}
use Rattle.pdw_memo.proofs.EachGroup.{some-same}

abbrev Column : Type 0
Column = ColId × Kind

-- ---- the kinds of the columns of all leaves

module _ (c : ColId) where
  kind-append : (xs ys : Columns) → kind_at (xs ++ ys) c ≡ option_or (kind_at xs c) (kind_at ys c)
  kind-append [] ys = refl
  kind-append (x ∷ xs) ys = by (x.0.0 == c.0) (kind-append xs ys)
    where
      by : (here : Bool) → kind_at (xs ++ ys) c ≡ option_or (kind_at xs c) (kind_at ys c)
          → (if here then Some x.1 else kind_at (xs ++ ys) c) ≡ option_or (if here then Some x.1 else kind_at xs c) (kind_at ys c)
      by true rest = refl
      by false rest = rest

  risen-kinds : (leaves : List Columns) → kind_at (flat_map (λ columns. columns) (map rising leaves)) c ≡ kind_at (flat_map (λ columns. columns) leaves) c
  risen-kinds [] = refl
  risen-kinds (leaf ∷ leaves) =
      kind-append (rising leaf) (flat_map (λ columns. columns) (map rising leaves))
      ∙ ap₂ (λ a b. option_or a b) ((rising-schema leaf).same c) (risen-kinds leaves)
      ∙ sym (kind-append leaf (flat_map (λ columns. columns) leaves))

-- ---- columns by rising numbers

abbrev After : ℕ → Columns → Type 0
After n columns = AllByRecursion (λ column. n < column.0.0) columns

-- each number is below all later ones
abbrev Rise : Columns → Type 0
Rise [] = Unit {0}
Rise (column ∷ columns) = After column.0.0 columns × Rise columns

rise-from : (columns : Columns) → IsAscending columns → Rise columns
rise-from [] ascending = tt
rise-from (column ∷ columns) ascending = (
  each columns (λ k d within. ascending 0 (suc k) d (omega arith) (omega (arith, within))),
  rise-from columns (λ i j d less within. ascending (suc i) (suc j) d (omega (arith, less)) (omega (arith, within))),
)
  where
    each : (later : Columns) → ((k : ℕ) (d : Column) → k < length later → column.0.0 < (get_or later k d).0.0) → After column.0.0 later
    each [] f = tt
    each (first ∷ later) f = (f 0 first (omega arith), each later (λ k d within. f (suc k) d (omega (arith, within))))

after-none : (n : ℕ) (columns : Columns) (c : ColId) → After n columns → c.0 ≤ n → kind_at columns c ≡ None
after-none n [] c after le = refl
after-none n (column ∷ columns) c after le =
    ap (λ (b : Bool). if b then Some column.1 else kind_at columns c) (ne_eqb column.0.0 c.0 (λ same. let more = after.0 in omega (arith, more, le, same)))
    ∙ after-none n columns c after.1 le

here-some : (column : Column) (columns : Columns) → kind_at (column ∷ columns) column.0 ≡ Some column.1
here-some column columns = ap (λ (b : Bool). if b then Some column.1 else kind_at columns column.0) (eq-eqb column.0.0 column.0.0 refl)

-- a column of a smaller number than the first is not there
not-first : (x y : Column) (xs ys : Columns) → Rise (y ∷ ys) → x.0.0 < y.0.0 → kind_at (x ∷ xs) x.0 ≢ kind_at (y ∷ ys) x.0
not-first x y xs ys rise less same =
    let none : kind_at (y ∷ ys) x.0 ≡ None =
    after-none x.0.0 (y ∷ ys) x.0 (less, all-map (λ column. y.0.0 < column.0.0) (λ column. x.0.0 < column.0.0) (λ column more. omega (arith, less, more)) ys rise.0) (omega arith) in
    absurd (true≢false (ap is_some (sym (here-some x xs) ∙ same ∙ none)))

-- of the same kinds they are the same
rise-same : (xs ys : Columns) → Rise xs → Rise ys → ((c : ColId) → kind_at xs c ≡ kind_at ys c) → xs ≡ ys
rise-same [] [] first second same = refl
rise-same [] (y ∷ ys) first second same = absurd (true≢false (ap is_some (sym (same y.0 ∙ here-some y ys))))
rise-same (x ∷ xs) [] first second same = absurd (true≢false (ap is_some (sym (here-some x xs) ∙ same x.0)))
rise-same (x ∷ xs) (y ∷ ys) first second same = ap₂ (λ column columns. column ∷ columns) equal (rise-same xs ys first.1 second.1 rest)
  where
    by_order : (x.0.0 < y.0.0) ⊎ (y.0.0 ≤ x.0.0) → (y.0.0 < x.0.0) ⊎ (x.0.0 ≤ y.0.0) → x.0.0 ≡ y.0.0
    by_order (inl less) other = absurd (not-first x y xs ys second less (same x.0))
    by_order (inr le) (inl less) = absurd (not-first y x ys xs first less (sym (same y.0)))
    by_order (inr le) (inr ge) = omega (arith, le, ge)

    number : x.0.0 ≡ y.0.0
    number = by_order (cases_lt x.0.0 y.0.0) (cases_lt y.0.0 x.0.0)

    column_is : x.0 ≡ y.0
    column_is = numbers-same x.0 y.0 (eq-eqb x.0.0 y.0.0 number)

    kind_is : x.1 ≡ y.1
    kind_is = some-same x.1 y.1 (sym (here-some x xs) ∙ same x.0 ∙ ap (kind_at (y ∷ ys)) column_is ∙ here-some y ys)

    equal : x ≡ y
    equal = ap₂ (λ (c : ColId) (k : Kind). (c, k)) column_is kind_is

    rest : (c : ColId) → kind_at xs c ≡ kind_at ys c
    rest c = by (x.0.0 == c.0) refl
      where
        by : (b : Bool) → (x.0.0 == c.0) ≡ b → kind_at xs c ≡ kind_at ys c
        by true here =
            let is = eqb-true x.0.0 c.0 here in
            after-none x.0.0 xs c first.0 (omega (arith, is)) ∙ sym (after-none y.0.0 ys c second.0 (omega (arith, is, number)))
        by false other =
            sym (ap (λ (b : Bool). if b then Some x.1 else kind_at xs c) other) ∙ same c
            ∙ ap (λ (b : Bool). if b then Some y.1 else kind_at ys c) (ap (λ n. n == c.0) (sym number) ∙ other)

pub rising-all : (leaves : List Columns) → rising (flat_map (λ columns. columns) (map rising leaves)) ≡ rising (flat_map (λ columns. columns) leaves)
rising-all leaves =
    let risen = flat_map (λ columns. columns) (map rising leaves) in
    let all = flat_map (λ (columns : Columns). columns) leaves in
    let first = rising-schema risen in
    let second = rising-schema all in
    rise-same (rising risen) (rising all) (rise-from (rising risen) first.ascending) (rise-from (rising all) second.ascending)
    (λ c. first.same c ∙ risen-kinds c leaves ∙ sym (second.same c))
