-- What an aggregate keeps of values, value by value: what it keeps of one alone, and of what was kept of two parts together.
use Rattle.std.specs.Prelude.{◌+ℤ◌, pos, if◌then◌else◌}
use Rattle.pdw_base.specs.Comparison.{number}
use Rattle.pdw_base.specs.declared.value.Value.{Value}
use Rattle.pdw_base.specs.declared.value.Value.TheVariants.{Null}
use Rattle.pdw_expr.specs.Aggregate.{greater, lesser, wide}
use Rattle.pdw_expr.specs.Comparison.{is_null}
use Rattle.pdw_expr.specs.declared.agg.AggKind.{AggKind}
use Rattle.pdw_expr.specs.declared.agg.AggKind.TheVariants.{CountStar, Count, Sum, Min, Max}

-- counts and sums add up modulo 2^128
abbrev pub plus : Value → Value → Value
plus a b = wide (number a +ℤ number b)

-- NULL is kept of no value, and leaves the other as it is
abbrev pub or_other : (Value → Value → Value) → Value → Value → Value
or_other join a b = if is_null a then b else (if is_null b then a else join a b)

abbrev pub joined : AggKind → Value → Value → Value
joined CountStar = plus
joined Count = plus
joined Sum = or_other plus
joined Min = or_other lesser
joined Max = or_other greater

-- of no value a count keeps 0, and any other aggregate NULL
abbrev pub nothing : AggKind → Value
nothing CountStar = wide (pos 0)
nothing Count = wide (pos 0)
nothing Sum = Null
nothing Min = Null
nothing Max = Null

-- a number as a sum of its own, and NULL as it is
abbrev pub widened : Value → Value
widened value = if is_null value then Null else wide (number value)

-- of one value
abbrev pub alone : AggKind → Value → Value
alone CountStar value = wide (pos 1)
alone Count value = if is_null value then wide (pos 0) else wide (pos 1)
alone Sum value = widened value
alone Min value = value
alone Max value = value

-- of what was kept of one part
abbrev pub again : AggKind → Value → Value
again CountStar kept = wide (number kept)
again Count kept = wide (number kept)
again Sum kept = widened kept
again Min kept = kept
again Max kept = kept
