-- Value expressions (SQL-92, 6.11 to 6.14): operands from left to right, and then the operator's types.
use Rattle.std.specs.Prelude.{◌&&◌, Bool, true, false, not, List, [], ◌∷◌, map, Option, Some, None, is_none, if◌then◌else◌}
use Rattle.std.specs.List.{list_all}
use Rattle.pdw_syntax.specs.declared.expr.ColRef.{ColRef}
use Rattle.pdw_syntax.specs.declared.expr.SqlExpr.{SqlExpr}
use Rattle.pdw_syntax.specs.declared.expr.SqlExpr.TheOpen.{SqlExpr-F}
use Rattle.pdw_syntax.specs.declared.expr.SqlExpr.TheFolds.{fold-SqlExpr}
use Rattle.pdw_base.specs.declared.value.Kind.{Kind}
use Rattle.pdw_base.specs.declared.value.Kind.TheVariants as kind
use Rattle.pdw_base.specs.declared.value.Value.TheVariants as value
use Rattle.pdw_expr.specs.declared.agg.AggKind.{AggKind}
use Rattle.pdw_expr.specs.declared.agg.AggKind.TheVariants.{Sum, Min, Max}
use Rattle.pdw_expr.specs.declared.scalar.Arith.{Arith}
use Rattle.pdw_expr.specs.declared.scalar.Scalar.{Scalar}
use Rattle.pdw_expr.specs.declared.scalar.Scalar.TheVariants as scalar
use Rattle.pdw_walk.specs.Lookup.{Place, column}
use Rattle.pdw_walk.specs.Walk.{Step, ◌>>=◌, ◌>>◌, ◌<$>◌, pure, refuse_if, each, made_number, add_aggregate}
use Rattle.pdw_walk.specs.declared.entry.Met.{Met}
use Rattle.pdw_walk.specs.declared.entry.Numbered.{Numbered}
use Rattle.pdw_walk.specs.declared.entry.Typed.{Typed}
use Rattle.pdw_walk.specs.declared.fault.JudgeFault.TheVariants.{TypeMismatch, AggregatePlace}

-- ---- kinds

abbrev pub same_kind : Kind → Kind → Bool
same_kind kind.Int kind.Int = true
same_kind kind.Text kind.Text = true
same_kind kind.Wide kind.Wide = true
same_kind _ _ = false

-- each has to be of the kind
abbrev pub have_to_be : Kind → List Typed → Step (Unit {0})
have_to_be wanted xs = refuse_if (not (list_all (λ x. same_kind wanted x.kind) xs)) TypeMismatch

-- ---- what expressions become

abbrev pub typed : Kind → Scalar → Typed
typed kind x = record { kind = kind; scalar = x; bare = None }

abbrev pub column_typed : Kind → Numbered → Typed
column_typed kind column = record { kind = kind; scalar = scalar.Col column.number; bare = Some column }

abbrev pub met_typed : Met → Typed
met_typed met = column_typed met.kind met.column

abbrev pub column_expr : Place → ColRef → Step Typed
column_expr place ref = met_typed <$> column place ref

-- ---- signs and chains, of numbers

abbrev pub with_sign : Bool → Scalar → Scalar
with_sign minus x = if minus then scalar.Neg x else x

unfoldable pub signed : Bool → Typed → Step Typed
signed minus x = have_to_be kind.Int (x ∷ []) >> pure (typed kind.Int (with_sign minus x.scalar))

-- an operator with its right operand
abbrev pub operand : Place → (Arith × (Place → Step Typed)) → Step (Arith × Typed)
operand place link = (λ x. (link.0, x)) <$> link.1 place

abbrev pub are_numbers : Typed → List (Arith × Typed) → Bool
are_numbers first rest = same_kind kind.Int first.kind && list_all (λ link. same_kind kind.Int link.1.kind) rest

unfoldable pub chained : Typed → List (Arith × Typed) → Step Typed
chained first rest =
    refuse_if (not (are_numbers first rest)) TypeMismatch
    >> pure (typed kind.Int (scalar.Chain first.scalar (map (λ link. (link.0, link.1.scalar)) rest)))

abbrev pub chain : (Place → Step Typed) → List (Arith × (Place → Step Typed)) → Place → Step Typed
chain first rest place = do
  start ← first place
  links ← each (operand place) rest
  chained start links

-- ---- aggregates (SQL-92, 6.5)

-- the place of an aggregate's argument, in which no aggregate may stand
abbrev pub argument_place : Place → Place
argument_place place = record { own = place.own; outers = place.outers; reaches = place.reaches; keys = None }

-- SUM needs numbers
abbrev pub argument_fits : AggKind → Typed → Step (Unit {0})
argument_fits Sum x = have_to_be kind.Int (x ∷ [])
argument_fits _ x = pure tt

-- MIN and MAX are of their argument's kind
abbrev pub aggregate_kind : AggKind → Kind → Kind
aggregate_kind Min argument = argument
aggregate_kind Max argument = argument
aggregate_kind _ argument = kind.Int

-- its number comes when its walk ends
unfoldable pub made_aggregate : AggKind → Kind → Option Scalar → Step Typed
made_aggregate aggregate argument x = do
  column ← made_number
  add_aggregate (record { kind = aggregate; arg = x; out = column.number })
  pure (column_typed (aggregate_kind aggregate argument) column)

unfoldable pub aggregate_of : AggKind → Typed → Step Typed
aggregate_of aggregate x = argument_fits aggregate x >> made_aggregate aggregate x.kind (Some x.scalar)

abbrev pub aggregate_over : AggKind → Option (Place → Step Typed) → Place → Step Typed
aggregate_over aggregate None place = made_aggregate aggregate kind.Int None
aggregate_over aggregate (Some x) place = x (argument_place place) >>= aggregate_of aggregate

abbrev pub aggregated : AggKind → Option (Place → Step Typed) → Place → Step Typed
aggregated aggregate x place = refuse_if (is_none place.keys) AggregatePlace >> aggregate_over aggregate x place

-- ---- any expression

abbrev pub expr_step : SqlExpr-F (Place → Step Typed) → Place → Step Typed
expr_step (SqlExpr-F.Col ref) place = column_expr place ref
expr_step (SqlExpr-F.Number n) place = pure (typed kind.Int (scalar.Lit (value.Int n)))
expr_step (SqlExpr-F.Text t) place = pure (typed kind.Text (scalar.Lit (value.Text t)))
expr_step (SqlExpr-F.Signed minus x) place = x place >>= signed minus
expr_step (SqlExpr-F.Chain first rest) place = chain first rest place
expr_step (SqlExpr-F.Agg aggregate x) place = aggregated aggregate x place
expr_step (SqlExpr-F.Paren x) place = x place

abbrev pub expr : SqlExpr → Place → Step Typed
expr = fold-SqlExpr (Place → Step Typed) expr_step

-- an operator with its right operand, by the operand's text
abbrev pub operand_of : Place → (Arith × SqlExpr) → Step (Arith × Typed)
operand_of place link = operand place (link.0, expr link.1)
