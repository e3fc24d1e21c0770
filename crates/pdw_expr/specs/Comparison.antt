-- The comparison predicate (SQL-92, 8.2) and the null predicate (8.6).
use Rattle.std.specs.Prelude.{Bool, true, false, Option, Some, None}
use Rattle.std.specs.declared.cmp.Ordering.{Ordering}
use Rattle.std.specs.Ordering.{is_eq, is_ne, is_lt, is_le, is_gt, is_ge}
use Rattle.pdw_base.specs.Comparison.{compared}
use Rattle.pdw_base.specs.declared.truth.Truth.{Truth}
use Rattle.pdw_base.specs.declared.truth.Truth.TheVariants.{Unknown}
use Rattle.pdw_base.specs.declared.value.Value.{Value}
use Rattle.pdw_base.specs.declared.value.Value.TheVariants.{Null, Int, Text, Wide}
use Rattle.pdw_expr.specs.Logic.{decided}
use Rattle.pdw_expr.specs.declared.cond.Cmp.{Cmp}
use Rattle.pdw_expr.specs.declared.cond.Cmp.TheVariants.{Eq, Ne, Lt, Le, Gt, Ge}

-- the orders of two values at which a comparison holds
abbrev pub holds_at : Cmp → Ordering → Bool
holds_at Eq = is_eq
holds_at Ne = is_ne
holds_at Lt = is_lt
holds_at Le = is_le
holds_at Gt = is_gt
holds_at Ge = is_ge

-- Unknown where there is no order
abbrev pub truth_at : Cmp → Option Ordering → Truth
truth_at op None = Unknown
truth_at op (Some ordering) = decided (holds_at op ordering)

-- a comparison of two values: Unknown where either is NULL or they are of two kinds
abbrev pub comparison : Cmp → Value → Value → Truth
comparison op a b = truth_at op (compared a b)

-- IS NULL
abbrev pub is_null : Value → Bool
is_null Null = true
is_null (Int n) = false
is_null (Text t) = false
is_null (Wide n) = false
