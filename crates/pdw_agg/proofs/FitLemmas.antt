-- Made rows fit their schemas.
use Rattle.std.proofs.Common.{◌≡◌, ◌==◌, ◌&&◌, ◌||◌, suc, ◌<◌, Bool, true, false, cond, All, List, [], ◌∷◌, ◌++◌, map, filter, Option, Some, None, is_some, refl, sym, ap, subst, ◌∙◌, if◌then◌else◌, true≢false, arith, eq-eqb, eqb-true, suc-le-suc}
use Rattle.std.proofs.lemmas.List.Elements.{All-nil, All-cons, All-head, All-tail}
use Rattle.std.proofs.lemmas.List.Sorted.{All-permutation}
use Rattle.std.specs.List.{AllByRecursion, list_all, list_any}
use Rattle.pdw_agg.proofs.KindLemmas.{AllOf, FitsEnv, cell-fits, fitted-Int, greatest-present, least-present, scalar-kind, summed-kind}
use Rattle.pdw_agg.proofs.StageLemmas.{finals-rows, partials-rows, whole-rows}
use Rattle.pdw_agg.specs.Columns.{final_kind, final_schema, grouped_schema, partial_kind, partial_schema}
use Rattle.pdw_agg.specs.Fitting.{CanFinish, CanGroup, CanKeep, is_plain, keeps_plain}
use Rattle.pdw_agg.specs.Grouping.{final_over, grouped_over, partial_over}
use Rattle.pdw_agg.specs.Stage.{cell_value, made_row, made_rows, value_cells}
use Rattle.pdw_agg.specs.declared.stage.Stage.{Stage}
use Rattle.pdw_agg.specs.declared.stage.Stage.TheVariants.{Whole, Partial, Final}
use Rattle.pdw_algebra.proofs.PlacedLemmas.{rising-schema}
use Rattle.pdw_algebra.specs.Schema.{kind_at, rising}
use Rattle.pdw_algebra.specs.Shape.{kind_or_int}
use Rattle.pdw_algebra.specs.Types.{aggregate_kind, aggregate_kind_by, is_number, scalar_kind}
use Rattle.pdw_bag_laws.proofs.Groups.{column-≡}
use Rattle.pdw_bag_laws.proofs.Keys.{same_row-itself, same_row-≡}
use Rattle.pdw_base.proofs.SameBagLaws.{IsPermutation-from_SameBag, SameBag-sym}
use Rattle.pdw_base.specs.SameBag.{SameBag}
use Rattle.pdw_base.specs.Schema.{Columns, Env, FitsColumns, IsAscending, cell, row_over}
use Rattle.pdw_base.specs.Value.{IsOfKind}
use Rattle.pdw_base.specs.declared.schema.ColId.{ColId}
use Rattle.pdw_base.specs.declared.value.Kind.{Kind}
use Rattle.pdw_base.specs.declared.value.Kind.TheVariants as kind
use Rattle.pdw_base.specs.declared.value.Value.{Value}
use Rattle.pdw_base.specs.declared.value.Value.TheVariants.{Null, Int, Text, Wide}
use Rattle.pdw_expr.specs.Aggregate.{final_value, partial_value, present}
use Rattle.pdw_expr.specs.Env.{or_else}
use Rattle.pdw_expr.specs.Parts.{each_once, groups, same_row}
use Rattle.pdw_expr.specs.Rows.{argument, first_row, key_of}
use Rattle.pdw_expr.specs.declared.agg.Agg.{Agg}
use Rattle.pdw_expr.specs.declared.agg.AggKind.{AggKind}
use Rattle.pdw_expr.specs.declared.agg.AggKind.TheVariants.{CountStar, Count, Sum, Min, Max}
use Rattle.pdw_expr.specs.declared.scalar.Scalar.{Scalar}
use Rattle.pdw_partial.specs.Partial.{KeysApart, merged}

-- ---- rows by the kinds of their columns

abbrev Column : Type 0
Column = ColId × Kind

ascending-tail : (first : Column) (rest : Columns) → IsAscending (first ∷ rest) → IsAscending rest
ascending-tail first rest ascending i j d less within = ascending (suc i) (suc j) d (suc-le-suc less) (suc-le-suc within)

ascending-head : (first : Column) (rest : Columns) → IsAscending (first ∷ rest) → All (λ later. first.0.0 < later.0.0) rest
ascending-head first rest ascending k d within = ascending 0 (suc k) d (omega arith) (suc-le-suc within)

-- no column of greater numbers has the number
none-beyond : (columns : Columns) (c : ColId) → All (λ later. c.0 < later.0.0) columns → kind_at columns c ≡ None
none-beyond [] c greater = refl
none-beyond (column ∷ columns) c greater =
    by (column.0.0 == c.0) refl (none-beyond columns c (All-tail (λ later. c.0 < later.0.0) column columns greater))
  where
    by : (here : Bool) → (column.0.0 == c.0) ≡ here → kind_at columns c ≡ None → (if here then Some column.1 else kind_at columns c) ≡ None
    by true here rest =
        let less = All-head (λ later. c.0 < later.0.0) column columns greater in
        let same = eqb-true _ _ here in
        absurd (omega arith)
    by false here rest = rest

later-kind : (column : Column) (columns : Columns) → IsAscending (column ∷ columns) → (c : ColId) (k : Kind) → kind_at columns c ≡ Some k → kind_at (column ∷ columns) c ≡ Some k
later-kind column columns ascending c k there = by (column.0.0 == c.0) refl
  where
    by : (here : Bool) → (column.0.0 == c.0) ≡ here → (if here then Some column.1 else kind_at columns c) ≡ Some k
    by true here =
        let none = subst (λ d. kind_at columns d ≡ None) (column-≡ column.0 c here) (none-beyond columns column.0 (ascending-head column columns ascending)) in
        cc
    by false here = there

row-fits : (columns : Columns) (env : Env) → IsAscending columns → ((c : ColId) (k : Kind) → kind_at columns c ≡ Some k → IsOfKind k (env c)) → FitsColumns columns (row_over columns env)
row-fits [] env ascending each = _
row-fits (column ∷ columns) env ascending each = (
  each column.0 column.1 (ap (λ here. if here then Some column.1 else kind_at columns column.0) (eq-eqb column.0.0 column.0.0 refl)),
  row-fits columns env (ascending-tail column columns ascending) (λ c k there. each c k (later-kind column columns ascending c k there)),
)

-- ---- made rows

or_else-Null : (v : Value) → or_else v Null ≡ v
or_else-Null Null = refl
or_else-Null (Int n) = refl
or_else-Null (Text t) = refl
or_else-Null (Wide n) = refl

abbrev is_among : List ColId → ColId → Bool
is_among keys c = list_any (λ key. key.0 == c.0) keys

-- a column of a key is no aggregate's
no-value : (stage : Stage) (keys : List ColId) (aggs : List Agg) → KeysApart keys aggs → (rows : List Env) (c : ColId) → is_among keys c ≡ true → value_cells stage aggs rows c ≡ Null
no-value stage keys [] apart rows c among = refl
no-value stage keys (agg ∷ aggs) apart rows c among = by (agg.out.0 == c.0) refl (no-value stage keys aggs apart.1 rows c among)
  where
    by : (is : Bool) → (agg.out.0 == c.0) ≡ is → value_cells stage aggs rows c ≡ Null → (if is then cell_value stage agg rows else value_cells stage aggs rows c) ≡ Null
    by true is rest = absurd (true≢false (sym among ∙ ap (is_among keys) (sym (column-≡ agg.out c is)) ∙ apart.0))
    by false is rest = rest

module _ (columns : Columns) (own_kind : Agg → Kind) where
  abbrev key_kind : ColId → Kind
  key_kind c = kind_or_int (kind_at columns c)

  abbrev key_columns : List ColId → Columns
  key_columns keys = map (λ key. (key, key_kind key)) keys

  abbrev own_columns : List Agg → Columns
  own_columns aggs = map (λ agg. (agg.out, own_kind agg)) aggs

  pub kind-key : (keys : List ColId) (rest : Columns) (c : ColId) → is_among keys c ≡ true → kind_at (key_columns keys ++ rest) c ≡ Some (key_kind c)
  kind-key [] rest c among = absurd (true≢false (sym among))
  kind-key (key ∷ keys) rest c among = by (key.0 == c.0) refl among (kind-key keys rest c)
    where
      by : (here : Bool) → (key.0 == c.0) ≡ here → (here || is_among keys c) ≡ true → (is_among keys c ≡ true → kind_at (key_columns keys ++ rest) c ≡ Some (key_kind c))
          → (if here then Some (key_kind key) else kind_at (key_columns keys ++ rest) c) ≡ Some (key_kind c)
      by true here among later = ap (λ d. Some (key_kind d)) (column-≡ key c here)
      by false here among later = later among

  pub kind-own : (keys : List ColId) (rest : Columns) (c : ColId) → is_among keys c ≡ false → kind_at (key_columns keys ++ rest) c ≡ kind_at rest c
  kind-own [] rest c other = refl
  kind-own (key ∷ keys) rest c other = by (key.0 == c.0) other (kind-own keys rest c)
    where
      by : (here : Bool) → (here || is_among keys c) ≡ false → (is_among keys c ≡ false → kind_at (key_columns keys ++ rest) c ≡ kind_at rest c)
          → (if here then Some (key_kind key) else kind_at (key_columns keys ++ rest) c) ≡ kind_at rest c
      by true other later = absurd (true≢false other)
      by false other later = later other

  module _ (stage : Stage) (keys : List ColId) (rows : List Env) (fits : AllByRecursion (FitsEnv columns) rows) where
    -- each aggregate has a value of its column's kind
    abbrev Values : List Agg → Type 0
    Values aggs = AllByRecursion (λ agg. IsOfKind (own_kind agg) (cell_value stage agg rows)) aggs

    own-kind : (aggs : List Agg) → Values aggs → (c : ColId) (k : Kind) → kind_at (own_columns aggs) c ≡ Some k → IsOfKind k (value_cells stage aggs rows c)
    own-kind [] values c k there = cc
    own-kind (agg ∷ aggs) values c k there = by (agg.out.0 == c.0) there (own-kind aggs values.1 c k)
      where
        by : (here : Bool) → (if here then Some (own_kind agg) else kind_at (own_columns aggs) c) ≡ Some k
            → (kind_at (own_columns aggs) c ≡ Some k → IsOfKind k (value_cells stage aggs rows c))
            → IsOfKind k (if here then cell_value stage agg rows else value_cells stage aggs rows c)
        by true there later = let same : own_kind agg ≡ k = cc in subst (λ k. IsOfKind k (cell_value stage agg rows)) same values.0
        by false there later = later there

    first-kind : (c : ColId) → IsOfKind (key_kind c) (first_row rows c)
    first-kind c = by rows fits
      where
        by : (rows : List Env) → AllByRecursion (FitsEnv columns) rows → IsOfKind (key_kind c) (first_row rows c)
        by [] all = _
        by (row ∷ rows) all = all.0 c

    row-kind : (aggs : List Agg) → KeysApart keys aggs → Values aggs → (c : ColId) (k : Kind) → kind_at (key_columns keys ++ own_columns aggs) c ≡ Some k → IsOfKind k (made_row stage keys aggs rows c)
    row-kind aggs apart values c k there = by (is_among keys c) refl
      where
        by : (among : Bool) → is_among keys c ≡ among → IsOfKind k (or_else (if among then first_row rows c else Null) (value_cells stage aggs rows c))
        by true among =
            let own = kind-key keys (own_columns aggs) c among in
            let same : key_kind c ≡ k = cc in
            subst (IsOfKind k) (sym (ap (or_else (first_row rows c)) (no-value stage keys aggs apart rows c among) ∙ or_else-Null (first_row rows c)))
            (subst (λ k. IsOfKind k (first_row rows c)) same (first-kind c))
        by false other = own-kind aggs values c k (sym (kind-own keys (own_columns aggs) c other) ∙ there)

    made-fits : (aggs : List Agg) → KeysApart keys aggs → Values aggs
        → FitsColumns (rising (key_columns keys ++ own_columns aggs)) (row_over (rising (key_columns keys ++ own_columns aggs)) (made_row stage keys aggs rows))
    made-fits aggs apart values =
        let schema = rising-schema (key_columns keys ++ own_columns aggs) in
        row-fits (rising (key_columns keys ++ own_columns aggs)) (made_row stage keys aggs rows) schema.ascending
        (λ c k there. row-kind aggs apart values c k (sym (schema.same c) ∙ there))

  -- ---- the rows of all groups

  abbrev AllFit : List Env → Type 0
  AllFit rows = AllByRecursion (FitsEnv columns) rows

  kept : (test : Env → Bool) (rows : List Env) → AllFit rows → AllFit (filter test rows)
  kept test [] all = tt
  kept test (row ∷ rows) all = by (test row) (kept test rows all.1)
    where
      by : (b : Bool) → AllFit (filter test rows) → AllFit (cond b (row ∷ filter test rows) (filter test rows))
      by true rest = (all.0, rest)
      by false rest = rest

  groups-fit : {K : Type 0} (keys : List K) (key : Env → List Value) (rows : List Env) → AllFit rows → AllByRecursion AllFit (groups keys key rows)
  groups-fit [] key rows all = (all, tt)
  groups-fit (first ∷ rest) key rows all = each (each_once (map key rows))
    where
      each : (ks : List (List Value)) → AllByRecursion AllFit (map (λ k. filter (λ row. same_row (key row) k) rows) ks)
      each [] = tt
      each (k ∷ ks) = (kept (λ row. same_row (key row) k) rows all, each ks)

  rows-fit : (stage : Stage) (keys : List ColId) (aggs : List Agg) → KeysApart keys aggs
      → ((rows : List Env) → AllFit rows → AllByRecursion (λ agg. IsOfKind (own_kind agg) (cell_value stage agg rows)) aggs)
      → (rows : List Env) → AllFit rows
      → All (FitsColumns (rising (key_columns keys ++ own_columns aggs))) (map (row_over (rising (key_columns keys ++ own_columns aggs))) (made_rows stage keys aggs rows))
  rows-fit stage keys aggs apart values rows all = each (groups keys (key_of keys) rows) (groups-fit keys (key_of keys) rows all)
    where
      each : (found : List (List Env)) → AllByRecursion AllFit found
          → All (FitsColumns (rising (key_columns keys ++ own_columns aggs))) (map (row_over (rising (key_columns keys ++ own_columns aggs))) (map (made_row stage keys aggs) found))
      each [] all = All-nil (FitsColumns (rising (key_columns keys ++ own_columns aggs)))
      each (group ∷ found) all =
          All-cons (FitsColumns (rising (key_columns keys ++ own_columns aggs))) (row_over (rising (key_columns keys ++ own_columns aggs)) (made_row stage keys aggs group)) _
          (made-fits stage keys group all.0 aggs apart (values group all.0)) (each found all.1)

-- ---- the values of aggregates

final-Int : (v : Value) → IsOfKind kind.Wide v → IsOfKind kind.Int (final_value v)
final-Int Null is = _
final-Int (Int n) is = refl
final-Int (Text t) is = cc
final-Int (Wide n) is = fitted-Int n

plain-final : (k : Kind) → is_plain (Some k) ≡ true → (v : Value) → IsOfKind k v → IsOfKind k (final_value v)
plain-final k plain Null is = _
plain-final k plain (Int n) is = is
plain-final k plain (Text t) is = is
plain-final k plain (Wide n) is = absurd (true≢false (sym plain ∙ ap (λ k. is_plain (Some k)) is))

pub number-Int : (b : Bool) → kind_or_int (if b then Some kind.Int else None) ≡ kind.Int
number-Int true = refl
number-Int false = refl

module _ (columns : Columns) where
  values-all : (x : Scalar) (k : Kind) → scalar_kind columns x ≡ Some k → (rows : List Env) → AllByRecursion (FitsEnv columns) rows → AllOf k (map (argument (Some x)) rows)
  values-all x k typed [] all = tt
  values-all x k typed (row ∷ rows) all = (scalar-kind columns row all.0 x k typed, values-all x k typed rows all.1)

  column-all : (c : ColId) (rows : List Env) → AllByRecursion (FitsEnv columns) rows → AllOf (kind_or_int (kind_at columns c)) (map (λ row. row c) rows)
  column-all c [] all = tt
  column-all c (row ∷ rows) all = (all.0 c, column-all c rows all.1)

  module _ (rows : List Env) (fits : AllByRecursion (FitsEnv columns) rows) where
    abbrev values : Option Scalar → List Value
    values arg = map (argument arg) rows

    abbrev KeptFits : AggKind → Option Scalar → Type 0
    KeptFits kind arg = IsOfKind (kind_or_int (aggregate_kind_by columns kind arg)) (final_value (partial_value kind (values arg)))

    whole-value : (kind : AggKind) (arg : Option Scalar) → is_plain (aggregate_kind_by columns kind arg) ≡ true → KeptFits kind arg
    whole-value CountStar None plain = final-Int (partial_value CountStar (values None)) refl
    whole-value CountStar (Some x) plain = final-Int (partial_value CountStar (values (Some x))) refl
    whole-value Count None plain = final-Int (partial_value Count (values None)) refl
    whole-value Count (Some x) plain =
        subst (λ k. IsOfKind k (final_value (partial_value Count (values (Some x))))) (sym (number-Int (is_some (scalar_kind columns x))))
        (final-Int (partial_value Count (values (Some x))) refl)
    whole-value Sum None plain = final-Int (partial_value Sum (values None)) (summed-kind (present (values None)))
    whole-value Sum (Some x) plain =
        subst (λ k. IsOfKind k (final_value (partial_value Sum (values (Some x))))) (sym (number-Int (is_number (scalar_kind columns x))))
        (final-Int (partial_value Sum (values (Some x))) (summed-kind (present (values (Some x)))))
    whole-value Min None plain = absurd (true≢false (sym plain))
    whole-value Max None plain = absurd (true≢false (sym plain))
    whole-value Min (Some x) plain = by (scalar_kind columns x) refl plain
      where
        by : (k : Option Kind) → scalar_kind columns x ≡ k → is_plain k ≡ true → IsOfKind (kind_or_int k) (final_value (partial_value Min (values (Some x))))
        by None typed plain = absurd (true≢false (sym plain))
        by (Some k) typed plain = plain-final k plain (partial_value Min (values (Some x))) (least-present k (values (Some x)) (values-all x k typed rows fits))
    whole-value Max (Some x) plain = by (scalar_kind columns x) refl plain
      where
        by : (k : Option Kind) → scalar_kind columns x ≡ k → is_plain k ≡ true → IsOfKind (kind_or_int k) (final_value (partial_value Max (values (Some x))))
        by None typed plain = absurd (true≢false (sym plain))
        by (Some k) typed plain = plain-final k plain (partial_value Max (values (Some x))) (greatest-present k (values (Some x)) (values-all x k typed rows fits))

    partial-value : (kind : AggKind) (arg : Option Scalar) → is_some (aggregate_kind_by columns kind arg) ≡ true
        → IsOfKind (partial_kind kind (kind_or_int (aggregate_kind_by columns kind arg))) (partial_value kind (values arg))
    partial-value CountStar arg typed = refl
    partial-value Count arg typed = refl
    partial-value Sum arg typed = summed-kind (present (values arg))
    partial-value Min None typed = absurd (true≢false (sym typed))
    partial-value Max None typed = absurd (true≢false (sym typed))
    partial-value Min (Some x) typed = by (scalar_kind columns x) refl typed
      where
        by : (k : Option Kind) → scalar_kind columns x ≡ k → is_some k ≡ true → IsOfKind (kind_or_int k) (partial_value Min (values (Some x)))
        by None is typed = absurd (true≢false (sym typed))
        by (Some k) is typed = least-present k (values (Some x)) (values-all x k is rows fits)
    partial-value Max (Some x) typed = by (scalar_kind columns x) refl typed
      where
        by : (k : Option Kind) → scalar_kind columns x ≡ k → is_some k ≡ true → IsOfKind (kind_or_int k) (partial_value Max (values (Some x)))
        by None is typed = absurd (true≢false (sym typed))
        by (Some k) is typed = greatest-present k (values (Some x)) (values-all x k is rows fits)

    abbrev read : ColId → List Value
    read c = map (λ row. row c) rows

    final-value : (kind : AggKind) (c : ColId) → keeps_plain kind (kind_at columns c) ≡ true
        → IsOfKind (final_kind kind (kind_or_int (kind_at columns c))) (final_value (merged kind (read c)))
    final-value CountStar c plain = final-Int (merged CountStar (read c)) refl
    final-value Count c plain = final-Int (merged Count (read c)) refl
    final-value Sum c plain = final-Int (merged Sum (read c)) (summed-kind (present (read c)))
    final-value Min c plain = by (kind_at columns c) plain (column-all c rows fits)
      where
        by : (k : Option Kind) → is_plain k ≡ true → AllOf (kind_or_int k) (read c) → IsOfKind (kind_or_int k) (final_value (merged Min (read c)))
        by None plain all = absurd (true≢false (sym plain))
        by (Some k) plain all = plain-final k plain (merged Min (read c)) (least-present k (read c) all)
    final-value Max c plain = by (kind_at columns c) plain (column-all c rows fits)
      where
        by : (k : Option Kind) → is_plain k ≡ true → AllOf (kind_or_int k) (read c) → IsOfKind (kind_or_int k) (final_value (merged Max (read c)))
        by None plain all = absurd (true≢false (sym plain))
        by (Some k) plain all = plain-final k plain (merged Max (read c)) (greatest-present k (read c) all)

-- ---- the three stages

pub both : (a b : Bool) → (a && b) ≡ true → (a ≡ true) × (b ≡ true)
both true b hold = (refl, hold)
both false b hold = absurd (true≢false (sym hold))

pub each-typed : (test : Agg → Bool) (P : Agg → Type 0) → ((agg : Agg) → test agg ≡ true → P agg) → (aggs : List Agg) → list_all test aggs ≡ true → AllByRecursion P aggs
each-typed test P each [] all = tt
each-typed test P each (agg ∷ aggs) all = let split = both (test agg) (list_all test aggs) all in (each agg split.0, each-typed test P each aggs split.1)

module _ (columns : Columns) where
  envs-fit : (rows : List (List Value)) → All (FitsColumns columns) rows → AllByRecursion (FitsEnv columns) (map (cell columns) rows)
  envs-fit [] all = tt
  envs-fit (row ∷ rows) all = (cell-fits columns row (All-head (FitsColumns columns) row rows all), envs-fit rows (All-tail (FitsColumns columns) row rows all))

  module _ (keys : List ColId) (aggs : List Agg) (rows : List (List Value)) where
    pub grouped-fit : CanGroup keys aggs columns rows → All (FitsColumns (grouped_schema keys aggs columns)) (grouped_over keys aggs columns rows)
    grouped-fit can =
        subst (λ made. All (FitsColumns (grouped_schema keys aggs columns)) (map (row_over (grouped_schema keys aggs columns)) made)) (whole-rows keys aggs (map (cell columns) rows))
        (rows-fit columns (λ agg. kind_or_int (aggregate_kind columns agg)) Whole keys aggs can.apart
        (λ envs all. each-typed (λ agg. is_plain (aggregate_kind columns agg)) (λ agg. IsOfKind (kind_or_int (aggregate_kind columns agg)) (cell_value Whole agg envs)) (λ agg typed. whole-value columns envs all agg.kind agg.arg typed) aggs can.typed)
        (map (cell columns) rows) (envs-fit rows can.fit))

    pub partials-fit : CanKeep keys aggs columns rows → All (FitsColumns (partial_schema keys aggs columns)) (partial_over keys aggs columns rows)
    partials-fit can =
        subst (λ made. All (FitsColumns (partial_schema keys aggs columns)) (map (row_over (partial_schema keys aggs columns)) made)) (partials-rows keys aggs (map (cell columns) rows))
        (rows-fit columns (λ agg. partial_kind agg.kind (kind_or_int (aggregate_kind columns agg))) Partial keys aggs can.apart
        (λ envs all. each-typed (λ agg. is_some (aggregate_kind columns agg)) (λ agg. IsOfKind (partial_kind agg.kind (kind_or_int (aggregate_kind columns agg))) (cell_value Partial agg envs)) (λ agg typed. partial-value columns envs all agg.kind agg.arg typed) aggs can.typed)
        (map (cell columns) rows) (envs-fit rows can.fit))

    pub finals-fit : CanFinish keys aggs columns rows → All (FitsColumns (final_schema keys aggs columns)) (final_over keys aggs columns rows)
    finals-fit can =
        subst (λ made. All (FitsColumns (final_schema keys aggs columns)) (map (row_over (final_schema keys aggs columns)) made)) (finals-rows keys aggs (map (cell columns) rows))
        (rows-fit columns (λ agg. final_kind agg.kind (kind_or_int (kind_at columns agg.out))) Final keys aggs can.apart
        (λ envs all. each-typed (λ agg. keeps_plain agg.kind (kind_at columns agg.out)) (λ agg. IsOfKind (final_kind agg.kind (kind_or_int (kind_at columns agg.out))) (cell_value Final agg envs)) (λ agg typed. final-value columns envs all agg.kind agg.out typed) aggs can.typed)
        (map (cell columns) rows) (envs-fit rows can.fit))

-- rows of equal bags fit alike
pub fit-alike : (columns : Columns) (rows others : List (List Value)) → SameBag rows others → All (FitsColumns columns) others → All (FitsColumns columns) rows
fit-alike columns rows others same = All-permutation (FitsColumns columns) others rows (IsPermutation-from_SameBag same_row same_row-≡ same_row-itself others rows (SameBag-sym same))
