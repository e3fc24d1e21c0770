-- What the five kinds of aggregates keep of parts, merged, is what they keep of the whole.
use Rattle.std.proofs.Common.{◌≡◌, ℤ, pos, List, [], ◌∷◌, ◌++◌, length, refl, sym, ap, ap₂, ◌∙◌}
use Rattle.std.proofs.Math.IntN.{+ℤ_idl}
use Rattle.std.proofs.lemmas.Int.{SFits-int_wrap, int_wrap_fits}
use Rattle.std.specs.Int.{int_wrap, w128}
use Rattle.pdw_bag_laws.proofs.Aggregates.{join-commutes, join_of, merged-same, partial_value-append, plus, total-append, wide-plus}
use Rattle.pdw_base.specs.SameBag.{SameBag}
use Rattle.pdw_base.specs.declared.value.Value.TheVariants.{Null, Int, Text, Wide}
use Rattle.pdw_base.specs.declared.value.Value.{Value}
use Rattle.pdw_expr.specs.Aggregate.{greatest, least, partial_value, present, summed, total, wide}
use Rattle.pdw_expr.specs.declared.agg.AggKind.TheVariants.{CountStar, Count, Sum, Min, Max}
use Rattle.pdw_expr.specs.declared.agg.AggKind.{AggKind}
use Rattle.pdw_partial.specs.Partial.{merged}

added-append : (xs ys : List Value) → wide (total (xs ++ ys)) ≡ plus (wide (total xs)) (wide (total ys))
added-append xs ys = ap wide (total-append xs ys) ∙ wide-plus (total xs) (total ys)

merged-append : (kind : AggKind) (xs ys : List Value) → merged kind (xs ++ ys) ≡ join_of kind (merged kind xs) (merged kind ys)
merged-append CountStar = added-append
merged-append Count = added-append
merged-append Sum = partial_value-append Sum
merged-append Min = partial_value-append Min
merged-append Max = partial_value-append Max

-- what is kept of partial values does not depend on their order
pub SameBag-merged : (kind : AggKind) (xs ys : List Value) → SameBag xs ys → merged kind xs ≡ merged kind ys
SameBag-merged kind = merged-same (merged kind) (join_of kind) (record { joins = merged-append kind; commutes = join-commutes kind })

-- ---- one part

wide-wide : (z : ℤ) → wide (total (wide z ∷ [])) ≡ wide z
wide-wide z = ap wide (+ℤ_idl (int_wrap w128 z)) ∙ ap Wide (int_wrap_fits w128 (int_wrap w128 z) (SFits-int_wrap w128 z))

sum-again : (values : List Value) → summed (present (summed values ∷ [])) ≡ summed values
sum-again [] = refl
sum-again (first ∷ rest) = wide-wide (total (first ∷ rest))

least-again : (value : Value) → least (present (value ∷ [])) ≡ value
least-again Null = refl
least-again (Int n) = refl
least-again (Text t) = refl
least-again (Wide n) = refl

greatest-again : (value : Value) → greatest (present (value ∷ [])) ≡ value
greatest-again Null = refl
greatest-again (Int n) = refl
greatest-again (Text t) = refl
greatest-again (Wide n) = refl

-- what is kept of one part alone is what it kept
merged-one : (kind : AggKind) (values : List Value) → merged kind (partial_value kind values ∷ []) ≡ partial_value kind values
merged-one CountStar values = wide-wide (pos (length values))
merged-one Count values = wide-wide (pos (length (present values)))
merged-one Sum values = sum-again (present values)
merged-one Min values = least-again (least (present values))
merged-one Max values = greatest-again (greatest (present values))

-- ---- all parts

pub merged-none : (kind : AggKind) → merged kind [] ≡ partial_value kind []
merged-none CountStar = refl
merged-none Count = refl
merged-none Sum = refl
merged-none Min = refl
merged-none Max = refl

-- a part more
pub merged-more : (kind : AggKind) (part rest partials : List Value) → merged kind partials ≡ partial_value kind rest
    → merged kind (partial_value kind part ∷ partials) ≡ partial_value kind (part ++ rest)
merged-more kind part rest partials same =
    merged-append kind (partial_value kind part ∷ []) partials
    ∙ ap₂ (join_of kind) (merged-one kind part) same
    ∙ sym (partial_value-append kind part rest)
