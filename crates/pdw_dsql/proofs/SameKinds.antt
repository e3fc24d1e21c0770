-- Columns of the same kinds have the same schema, and expressions have the same kinds over them.
use Rattle.std.proofs.Common.{◌≡◌, ◌≢◌, ℕ, suc, ◌<◌, ◌≤◌, ◌==◌, Bool, true, false, true≢false, List, [], ◌∷◌, ◌++◌, length, map, get_or, Option, Some, None, is_some, refl, sym, ap, ap₂, ◌∙◌, arith, eqb-true, eq-eqb, ne_eqb, if◌then◌else◌, ◌⊎◌, inl, inr}
use Rattle.std.specs.List.{AllByRecursion}
use Rattle.std.specs.Option.{option_or}
use Rattle.std.proofs.lemmas.Bool.{cases_lt}
use Rattle.pdw_algebra.proofs.AllLaws.{all-map, numbers-same}
use Rattle.pdw_algebra.proofs.PlacedLemmas.{rising-schema}
use Rattle.pdw_algebra.specs.Schema.{kind_at, rising}
use Rattle.pdw_algebra.specs.Shape.{aggregate_column, item_column, item_kind, key_column, kind_or_int}
use Rattle.pdw_algebra.specs.Types.{aggregate_kind, aggregate_kind_by, item_kind_by, kind_over, scalar_kind, scalar_kind_step}
use Rattle.pdw_base.specs.Schema.{Columns, IsAscending}
use Rattle.pdw_base.specs.declared.schema.ColId.{ColId}
use Rattle.pdw_base.specs.declared.value.Kind.{Kind}
use Rattle.pdw_expr.specs.declared.agg.Agg.{Agg}
use Rattle.pdw_expr.specs.declared.scalar.Scalar.TheFolds.{fold-Scalar}
use Rattle.pdw_expr.specs.declared.scalar.Scalar.TheOpen.{Scalar-F}
use Rattle.pdw_expr.specs.declared.scalar.Scalar.{Scalar}
use Rattle.pdw_memo.proofs.EachGroup.{some-same}

abbrev NamedColumn : Type 0
NamedColumn = ColId × Kind

pub kind-append : (c : ColId) (xs ys : Columns) → kind_at (xs ++ ys) c ≡ option_or (kind_at xs c) (kind_at ys c)
kind-append c [] ys = refl
kind-append c (x ∷ xs) ys = by (x.0.0 == c.0) (kind-append c xs ys)
  where
    by : (here : Bool) → kind_at (xs ++ ys) c ≡ option_or (kind_at xs c) (kind_at ys c)
        → (if here then Some x.1 else kind_at (xs ++ ys) c) ≡ option_or (if here then Some x.1 else kind_at xs c) (kind_at ys c)
    by true rest = refl
    by false rest = rest

-- ---- columns by rising numbers

abbrev After : ℕ → Columns → Type 0
After n columns = AllByRecursion (λ column. n < column.0.0) columns

-- each number is below all later ones
abbrev Rise : Columns → Type 0
Rise [] = Unit {0}
Rise (column ∷ columns) = After column.0.0 columns × Rise columns

rise-from : (columns : Columns) → IsAscending columns → Rise columns
rise-from [] ascending = tt
rise-from (column ∷ columns) ascending = (
  each columns (λ k d within. ascending 0 (suc k) d (omega arith) (omega (arith, within))),
  rise-from columns (λ i j d less within. ascending (suc i) (suc j) d (omega (arith, less)) (omega (arith, within))),
)
  where
    each : (later : Columns) → ((k : ℕ) (d : NamedColumn) → k < length later → column.0.0 < (get_or later k d).0.0) → After column.0.0 later
    each [] f = tt
    each (first ∷ later) f = (f 0 first (omega arith), each later (λ k d within. f (suc k) d (omega (arith, within))))

after-none : (n : ℕ) (columns : Columns) (c : ColId) → After n columns → c.0 ≤ n → kind_at columns c ≡ None
after-none n [] c after le = refl
after-none n (column ∷ columns) c after le =
    ap (λ (b : Bool). if b then Some column.1 else kind_at columns c) (ne_eqb column.0.0 c.0 (λ same. let more = after.0 in omega (arith, more, le, same)))
    ∙ after-none n columns c after.1 le

here-some : (column : NamedColumn) (columns : Columns) → kind_at (column ∷ columns) column.0 ≡ Some column.1
here-some column columns = ap (λ (b : Bool). if b then Some column.1 else kind_at columns column.0) (eq-eqb column.0.0 column.0.0 refl)

-- a column of a smaller number than the first is not there
not-first : (x y : NamedColumn) (xs ys : Columns) → Rise (y ∷ ys) → x.0.0 < y.0.0 → kind_at (x ∷ xs) x.0 ≢ kind_at (y ∷ ys) x.0
not-first x y xs ys rise less same =
    let none : kind_at (y ∷ ys) x.0 ≡ None =
    after-none x.0.0 (y ∷ ys) x.0 (less, all-map (λ column. y.0.0 < column.0.0) (λ column. x.0.0 < column.0.0) (λ column more. omega (arith, less, more)) ys rise.0) (omega arith) in
    absurd (true≢false (ap is_some (sym (here-some x xs) ∙ same ∙ none)))

-- of the same kinds they are the same
rise-same : (xs ys : Columns) → Rise xs → Rise ys → ((c : ColId) → kind_at xs c ≡ kind_at ys c) → xs ≡ ys
rise-same [] [] first second same = refl
rise-same [] (y ∷ ys) first second same = absurd (true≢false (ap is_some (sym (same y.0 ∙ here-some y ys))))
rise-same (x ∷ xs) [] first second same = absurd (true≢false (ap is_some (sym (here-some x xs) ∙ same x.0)))
rise-same (x ∷ xs) (y ∷ ys) first second same = ap₂ (λ column columns. column ∷ columns) equal (rise-same xs ys first.1 second.1 rest)
  where
    by_order : (x.0.0 < y.0.0) ⊎ (y.0.0 ≤ x.0.0) → (y.0.0 < x.0.0) ⊎ (x.0.0 ≤ y.0.0) → x.0.0 ≡ y.0.0
    by_order (inl less) other = absurd (not-first x y xs ys second less (same x.0))
    by_order (inr le) (inl less) = absurd (not-first y x ys xs first less (sym (same y.0)))
    by_order (inr le) (inr ge) = omega (arith, le, ge)

    number : x.0.0 ≡ y.0.0
    number = by_order (cases_lt x.0.0 y.0.0) (cases_lt y.0.0 x.0.0)

    column_is : x.0 ≡ y.0
    column_is = numbers-same x.0 y.0 (eq-eqb x.0.0 y.0.0 number)

    kind_is : x.1 ≡ y.1
    kind_is = some-same x.1 y.1 (sym (here-some x xs) ∙ same x.0 ∙ ap (kind_at (y ∷ ys)) column_is ∙ here-some y ys)

    equal : x ≡ y
    equal = ap₂ (λ (c : ColId) (k : Kind). (c, k)) column_is kind_is

    rest : (c : ColId) → kind_at xs c ≡ kind_at ys c
    rest c = by (x.0.0 == c.0) refl
      where
        by : (b : Bool) → (x.0.0 == c.0) ≡ b → kind_at xs c ≡ kind_at ys c
        by true here =
            let is = eqb-true x.0.0 c.0 here in
            after-none x.0.0 xs c first.0 (omega (arith, is)) ∙ sym (after-none y.0.0 ys c second.0 (omega (arith, is, number)))
        by false other =
            sym (ap (λ (b : Bool). if b then Some x.1 else kind_at xs c) other) ∙ same c
            ∙ ap (λ (b : Bool). if b then Some y.1 else kind_at ys c) (ap (λ n. n == c.0) (sym number) ∙ other)

pub rising-same : (xs ys : Columns) → ((c : ColId) → kind_at xs c ≡ kind_at ys c) → rising xs ≡ rising ys
rising-same xs ys same =
    let first = rising-schema xs in
    let second = rising-schema ys in
    rise-same (rising xs) (rising ys) (rise-from (rising xs) first.ascending) (rise-from (rising ys) second.ascending)
    (λ c. first.same c ∙ same c ∙ sym (second.same c))

pub rising-again : (xs : Columns) → rising (rising xs) ≡ rising xs
rising-again xs = rising-same (rising xs) xs (λ c. (rising-schema xs).same c)

pub rising-both : (xs ys : Columns) → rising (rising xs ++ rising ys) ≡ rising (xs ++ ys)
rising-both xs ys =
    rising-same (rising xs ++ rising ys) (xs ++ ys)
    (λ c. kind-append c (rising xs) (rising ys) ∙ ap₂ option_or ((rising-schema xs).same c) ((rising-schema ys).same c) ∙ sym (kind-append c xs ys))

-- ---- kinds over them

module _ (xs ys : Columns) (same : (c : ColId) → kind_at xs c ≡ kind_at ys c) where
  layer-same : (y : Scalar-F (Option Kind)) → scalar_kind_step xs y ≡ scalar_kind_step ys y
  layer-same (Scalar-F.Col c) = same c
  layer-same (Scalar-F.Lit literal) = refl
  layer-same (Scalar-F.Neg operand) = refl
  layer-same (Scalar-F.Chain first rest) = refl

  scalar-same : (x : Scalar) → scalar_kind xs x ≡ scalar_kind ys x
  scalar-same x = λ i. fold-Scalar (Option Kind) (λ y. layer-same y i) x

  pub agg-same : (agg : Agg) → aggregate_kind xs agg ≡ aggregate_kind ys agg
  agg-same agg = by agg.arg
    where
      by : (arg : Option Scalar) → aggregate_kind_by xs agg.kind arg ≡ aggregate_kind_by ys agg.kind arg
      by None = refl
      by (Some x) = ap (kind_over agg.kind) (scalar-same x)

  pub item-same : (item : ColId × Option Scalar) → item_kind xs item ≡ item_kind ys item
  item-same item = by item.1
    where
      by : (make : Option Scalar) → item_kind_by xs (kind_at xs item.0) make ≡ item_kind_by ys (kind_at ys item.0) make
      by None = same item.0
      by (Some x) = scalar-same x

  pub key-columns : (keys : List ColId) → map (key_column xs) keys ≡ map (key_column ys) keys
  key-columns keys = λ i. map (λ key. (key, kind_or_int (same key i))) keys

  pub agg-columns : (aggs : List Agg) → map (aggregate_column xs) aggs ≡ map (aggregate_column ys) aggs
  agg-columns aggs = λ i. map (λ (agg : Agg). (agg.out, kind_or_int (agg-same agg i))) aggs

  pub item-columns : (items : List (ColId × Option Scalar)) → map (item_column xs) items ≡ map (item_column ys) items
  item-columns items = λ i. map (λ item. (item.0, kind_or_int (item-same item i))) items
