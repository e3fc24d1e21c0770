-- The value of an expression (SQL-92, 6.11 to 6.14) over a row or a group.
use Rattle.std.specs.Prelude.{Bool, map, Option, Some, None, fold, if◌then◌else◌}
use Rattle.pdw_syntax.specs.declared.expr.SqlExpr.{SqlExpr}
use Rattle.pdw_syntax.specs.declared.expr.SqlExpr.TheOpen.{SqlExpr-F}
use Rattle.pdw_syntax.specs.declared.expr.SqlExpr.TheFolds.{fold-SqlExpr}
use Rattle.pdw_base.specs.declared.value.Value.{Value}
use Rattle.pdw_base.specs.declared.value.Value.TheVariants.{Null, Int, Text}
use Rattle.pdw_expr.specs.Aggregate.{aggregated}
use Rattle.pdw_expr.specs.Arithmetic.{computed, negated}
use Rattle.pdw_semantics.specs.Environment.{Group, alone, environment, looked_up}

abbrev pub signed : Bool → Value → Value
signed minus value = if minus then negated value else value

-- the argument of an aggregate in one row; COUNT of `*` counts rows
abbrev pub argument : Option (Group → Value) → Group → Value
argument None row = Null
argument (Some x) row = x row

-- one layer of an expression, with the values of its operands
abbrev pub value_step : SqlExpr-F (Group → Value) → Group → Value
value_step (SqlExpr-F.Col ref) group = looked_up ref (environment group)
value_step (SqlExpr-F.Number n) group = Int n
value_step (SqlExpr-F.Text t) group = Text t
value_step (SqlExpr-F.Signed minus x) group = signed minus (x group)
value_step (SqlExpr-F.Chain first rest) group = fold (λ value link. computed link.0 value (link.1 group)) (first group) rest
value_step (SqlExpr-F.Agg kind x) group = aggregated kind (map (λ row. argument x (alone group.outers row)) group.rows)
value_step (SqlExpr-F.Paren x) group = x group

abbrev pub value_of : SqlExpr → Group → Value
value_of = fold-SqlExpr (Group → Value) value_step
