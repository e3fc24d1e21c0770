-- The value of an expression in an environment.
use Rattle.std.specs.Prelude.{fold}
use Rattle.pdw_base.specs.Schema.{Env}
use Rattle.pdw_base.specs.declared.value.Value.{Value}
use Rattle.pdw_expr.specs.Arithmetic.{computed, negated}
use Rattle.pdw_expr.specs.declared.scalar.Scalar.{Scalar}
use Rattle.pdw_expr.specs.declared.scalar.Scalar.TheOpen.{Scalar-F}
use Rattle.pdw_expr.specs.declared.scalar.Scalar.TheFolds.{fold-Scalar}

-- one layer of an expression, with the values of its operands; a chain is computed from left to right
abbrev pub value_step : Scalar-F (Env → Value) → Env → Value
value_step (Scalar-F.Col c) env = env c
value_step (Scalar-F.Lit value) env = value
value_step (Scalar-F.Neg operand) env = negated (operand env)
value_step (Scalar-F.Chain first rest) env = fold (λ value link. computed link.0 value (link.1 env)) (first env) rest

abbrev pub value_of : Scalar → Env → Value
value_of = fold-Scalar (Env → Value) value_step
