-- What an aggregate keeps of the rows of a group, with one row more.
use Rattle.std.proofs.Common.{◌≡◌, ℤ, pos, ◌+ℤ◌, List, [], ◌∷◌, ◌++◌, map, refl, ap, ◌∙◌}
use Rattle.std.proofs.Math.IntN.{+ℤ_idl}
use Rattle.std.proofs.lemmas.List.{map-append}
use Rattle.pdw_agg.specs.Running.{again, alone, joined, nothing}
use Rattle.pdw_agg.specs.Stage.{kept_value, one_value}
use Rattle.pdw_agg.specs.declared.stage.Stage.{Stage}
use Rattle.pdw_agg.specs.declared.stage.Stage.TheVariants.{Whole, Partial, Final}
use Rattle.pdw_bag_laws.proofs.Aggregates.{join_of, partial_value-append, plus, total-append, wide-plus}
use Rattle.pdw_base.specs.Comparison.{number}
use Rattle.pdw_base.specs.Schema.{Env}
use Rattle.pdw_base.specs.declared.value.Value.{Value}
use Rattle.pdw_base.specs.declared.value.Value.TheVariants as value
use Rattle.pdw_expr.specs.Aggregate.{partial_value, total, wide}
use Rattle.pdw_expr.specs.Rows.{argument}
use Rattle.pdw_expr.specs.declared.agg.Agg.{Agg}
use Rattle.pdw_expr.specs.declared.agg.AggKind.{AggKind}
use Rattle.pdw_expr.specs.declared.agg.AggKind.TheVariants.{CountStar, Count, Sum, Min, Max}
use Rattle.pdw_partial.specs.Partial.{merged}

joined-join_of : (kind : AggKind) (a b : Value) → join_of kind a b ≡ joined kind a b
joined-join_of CountStar a b = refl
joined-join_of Count a b = refl
joined-join_of Sum a b = refl
joined-join_of Min a b = refl
joined-join_of Max a b = refl

-- ---- one value

own_sum : (z : ℤ) → wide (pos 0 +ℤ z) ≡ wide z
own_sum z = ap wide (+ℤ_idl z)

partial-alone : (kind : AggKind) (v : Value) → partial_value kind (v ∷ []) ≡ alone kind v
partial-alone CountStar v = refl
partial-alone Count value.Null = refl
partial-alone Count (value.Int n) = refl
partial-alone Count (value.Text t) = refl
partial-alone Count (value.Wide n) = refl
partial-alone Sum value.Null = refl
partial-alone Sum (value.Int n) = own_sum n
partial-alone Sum (value.Text t) = own_sum (pos 0)
partial-alone Sum (value.Wide n) = own_sum n
partial-alone Min value.Null = refl
partial-alone Min (value.Int n) = refl
partial-alone Min (value.Text t) = refl
partial-alone Min (value.Wide n) = refl
partial-alone Max value.Null = refl
partial-alone Max (value.Int n) = refl
partial-alone Max (value.Text t) = refl
partial-alone Max (value.Wide n) = refl

merged-again : (kind : AggKind) (v : Value) → merged kind (v ∷ []) ≡ again kind v
merged-again CountStar v = own_sum (number v)
merged-again Count v = own_sum (number v)
merged-again Sum v = partial-alone Sum v
merged-again Min v = partial-alone Min v
merged-again Max v = partial-alone Max v

-- ---- one value more

added-append : (xs ys : List Value) → wide (total (xs ++ ys)) ≡ plus (wide (total xs)) (wide (total ys))
added-append xs ys = ap wide (total-append xs ys) ∙ wide-plus (total xs) (total ys)

merged-append : (kind : AggKind) (xs ys : List Value) → merged kind (xs ++ ys) ≡ join_of kind (merged kind xs) (merged kind ys)
merged-append CountStar = added-append
merged-append Count = added-append
merged-append Sum = partial_value-append Sum
merged-append Min = partial_value-append Min
merged-append Max = partial_value-append Max

partial-more : (kind : AggKind) (xs : List Value) (v : Value) → partial_value kind (xs ++ v ∷ []) ≡ joined kind (partial_value kind xs) (alone kind v)
partial-more kind xs v =
    partial_value-append kind xs (v ∷ [])
    ∙ joined-join_of kind (partial_value kind xs) (partial_value kind (v ∷ []))
    ∙ ap (joined kind (partial_value kind xs)) (partial-alone kind v)

merged-more : (kind : AggKind) (xs : List Value) (v : Value) → merged kind (xs ++ v ∷ []) ≡ joined kind (merged kind xs) (again kind v)
merged-more kind xs v =
    merged-append kind xs (v ∷ [])
    ∙ joined-join_of kind (merged kind xs) (merged kind (v ∷ []))
    ∙ ap (joined kind (merged kind xs)) (merged-again kind v)

-- ---- rows

pub kept-nothing : (stage : Stage) (agg : Agg) → nothing agg.kind ≡ kept_value stage agg []
kept-nothing stage agg = by stage agg.kind
  where
    by : (stage : Stage) (kind : AggKind) → nothing kind ≡ kept_value stage (record agg { kind = kind }) []
    by Whole CountStar = refl
    by Whole Count = refl
    by Whole Sum = refl
    by Whole Min = refl
    by Whole Max = refl
    by Partial CountStar = refl
    by Partial Count = refl
    by Partial Sum = refl
    by Partial Min = refl
    by Partial Max = refl
    by Final CountStar = refl
    by Final Count = refl
    by Final Sum = refl
    by Final Min = refl
    by Final Max = refl

pub kept-more : (stage : Stage) (agg : Agg) (rows : List Env) (row : Env) → kept_value stage agg (rows ++ row ∷ []) ≡ joined agg.kind (kept_value stage agg rows) (one_value stage agg row)
kept-more Whole agg rows row = ap (partial_value agg.kind) (map-append (argument agg.arg) rows (row ∷ [])) ∙ partial-more agg.kind (map (argument agg.arg) rows) (argument agg.arg row)
kept-more Partial agg rows row = ap (partial_value agg.kind) (map-append (argument agg.arg) rows (row ∷ [])) ∙ partial-more agg.kind (map (argument agg.arg) rows) (argument agg.arg row)
kept-more Final agg rows row = ap (merged agg.kind) (map-append (λ (row : Env). row agg.out) rows (row ∷ [])) ∙ merged-more agg.kind (map (λ (row : Env). row agg.out) rows) (row agg.out)
