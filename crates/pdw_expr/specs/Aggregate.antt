-- The values of aggregates (SQL-92, 6.5) over the values of their argument, one for each row of a group.
use Rattle.std.specs.Prelude.{ℤ, pos, ◌+ℤ◌, not, List, [], ◌∷◌, length, fold, if◌then◌else◌}
use Rattle.std.specs.Int.{int_wrap, w128}
use Rattle.std.specs.List.{filter}
use Rattle.std.specs.Ordering.{is_lt, is_gt}
use Rattle.pdw_base.specs.Comparison.{number, value_cmp}
use Rattle.pdw_base.specs.declared.value.Value.{Value}
use Rattle.pdw_base.specs.declared.value.Value.TheVariants.{Null, Int, Text, Wide}
use Rattle.pdw_expr.specs.Arithmetic.{fitted}
use Rattle.pdw_expr.specs.Comparison.{is_null}
use Rattle.pdw_expr.specs.declared.agg.AggKind.{AggKind}
use Rattle.pdw_expr.specs.declared.agg.AggKind.TheVariants.{CountStar, Count, Sum, Min, Max}

-- NULL is left out
abbrev pub present : List Value → List Value
present = filter (λ value. not (is_null value))

-- counts and sums are kept modulo 2^128, as signed numbers
abbrev pub wide : ℤ → Value
wide z = Wide (int_wrap w128 z)

abbrev pub total : List Value → ℤ
total = fold (λ sum value. sum +ℤ number value) (pos 0)

abbrev pub counted : List Value → Value
counted values = wide (pos (length values))

-- over no value it is NULL
abbrev pub summed : List Value → Value
summed [] = Null
summed (first ∷ rest) = wide (total (first ∷ rest))

abbrev pub lesser : Value → Value → Value
lesser a b = if is_lt (value_cmp b a) then b else a

abbrev pub greater : Value → Value → Value
greater a b = if is_gt (value_cmp b a) then b else a

abbrev pub least : List Value → Value
least [] = Null
least (first ∷ rest) = fold lesser first rest

abbrev pub greatest : List Value → Value
greatest [] = Null
greatest (first ∷ rest) = fold greater first rest

-- what an aggregate keeps of the rows of a part of a group
abbrev pub partial_value : AggKind → List Value → Value
partial_value CountStar values = counted values
partial_value Count values = counted (present values)
partial_value Sum values = summed (present values)
partial_value Min values = least (present values)
partial_value Max values = greatest (present values)

-- a count or a sum outside 64 bits is NULL
abbrev pub final_value : Value → Value
final_value (Wide z) = fitted z
final_value Null = Null
final_value (Int n) = Int n
final_value (Text t) = Text t

-- the value of an aggregate over a whole group
abbrev pub aggregated : AggKind → List Value → Value
aggregated kind values = final_value (partial_value kind values)
