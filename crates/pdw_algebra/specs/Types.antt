-- The kinds of expressions and aggregates over columns, and which conditions are well-typed.
use Rattle.std.specs.Prelude.{◌&&◌, leb, length, Bool, true, false, Option, Some, None, is_some, if◌then◌else◌}
use Rattle.std.specs.List.{list_all}
use Rattle.pdw_algebra.specs.Schema.{kind_at}
use Rattle.pdw_base.specs.Schema.{Columns}
use Rattle.pdw_base.specs.declared.value.Kind.{Kind}
use Rattle.pdw_base.specs.declared.value.Kind.TheVariants as kind
use Rattle.pdw_base.specs.declared.value.Value.{Value}
use Rattle.pdw_base.specs.declared.value.Value.TheVariants as value
use Rattle.pdw_catalog.specs.declared.table.TheConstants.{MOST_TEXT_BYTES}
use Rattle.pdw_expr.specs.declared.agg.Agg.{Agg}
use Rattle.pdw_expr.specs.declared.agg.AggKind.{AggKind}
use Rattle.pdw_expr.specs.declared.agg.AggKind.TheVariants as aggregate
use Rattle.pdw_expr.specs.declared.cond.Cond.{Cond}
use Rattle.pdw_expr.specs.declared.cond.Cond.TheOpen.{Cond-F}
use Rattle.pdw_expr.specs.declared.cond.Cond.TheFolds.{fold-Cond}
use Rattle.pdw_expr.specs.declared.scalar.Scalar.{Scalar}
use Rattle.pdw_expr.specs.declared.scalar.Scalar.TheOpen.{Scalar-F}
use Rattle.pdw_expr.specs.declared.scalar.Scalar.TheFolds.{fold-Scalar}

-- a literal is a number, or a text that is not too long
abbrev pub literal_kind : Value → Option Kind
literal_kind (value.Int n) = Some kind.Int
literal_kind (value.Text t) = if leb (length t) MOST_TEXT_BYTES then Some kind.Text else None
literal_kind value.Null = None
literal_kind (value.Wide n) = None

abbrev pub is_number : Option Kind → Bool
is_number (Some kind.Int) = true
is_number _ = false

abbrev pub is_text : Option Kind → Bool
is_text (Some kind.Text) = true
is_text _ = false

abbrev pub same_kinds : Option Kind → Option Kind → Bool
same_kinds (Some kind.Int) (Some kind.Int) = true
same_kinds (Some kind.Text) (Some kind.Text) = true
same_kinds (Some kind.Wide) (Some kind.Wide) = true
same_kinds _ _ = false

abbrev pub number_if : Bool → Option Kind
number_if is = if is then Some kind.Int else None

-- the kind of an aggregate of an argument of this kind
abbrev pub kind_over : AggKind → Option Kind → Option Kind
kind_over aggregate.CountStar argument = None
kind_over aggregate.Count argument = number_if (is_some argument)
kind_over aggregate.Sum argument = number_if (is_number argument)
kind_over aggregate.Min argument = argument
kind_over aggregate.Max argument = argument

-- exactly COUNT of `*` has no argument
abbrev pub kind_without : AggKind → Option Kind
kind_without aggregate.CountStar = Some kind.Int
kind_without _ = None

module _ (columns : Columns) where
  -- the kind of an expression, where its columns are there and its operands have the operator's kinds
  abbrev pub scalar_kind_step : Scalar-F (Option Kind) → Option Kind
  scalar_kind_step (Scalar-F.Col c) = kind_at columns c
  scalar_kind_step (Scalar-F.Lit literal) = literal_kind literal
  scalar_kind_step (Scalar-F.Neg operand) = number_if (is_number operand)
  scalar_kind_step (Scalar-F.Chain first rest) = number_if (is_number first && list_all (λ link. is_number link.1) rest)

  abbrev pub scalar_kind : Scalar → Option Kind
  scalar_kind = fold-Scalar (Option Kind) scalar_kind_step

  -- a condition whose columns are there, and whose operands have the predicate's kinds
  abbrev pub typed_step : Cond-F Bool → Bool
  typed_step (Cond-F.Compare op a b) = same_kinds (scalar_kind a) (scalar_kind b)
  typed_step (Cond-F.Like a b) = is_text (scalar_kind a) && is_text (scalar_kind b)
  typed_step (Cond-F.IsNull a) = is_some (scalar_kind a)
  typed_step (Cond-F.Test part truth) = part
  typed_step (Cond-F.Not part) = part
  typed_step (Cond-F.All parts) = list_all (λ part. part) parts
  typed_step (Cond-F.Any parts) = list_all (λ part. part) parts

  abbrev pub is_typed : Cond → Bool
  is_typed = fold-Cond Bool typed_step

  abbrev pub aggregate_kind_by : AggKind → Option Scalar → Option Kind
  aggregate_kind_by aggregate None = kind_without aggregate
  aggregate_kind_by aggregate (Some x) = kind_over aggregate (scalar_kind x)

  abbrev pub aggregate_kind : Agg → Option Kind
  aggregate_kind agg = aggregate_kind_by agg.kind agg.arg

  -- the kind of an item: that of the column that it passes through, or of its expression
  abbrev pub item_kind_by : Option Kind → Option Scalar → Option Kind
  item_kind_by passed None = passed
  item_kind_by passed (Some x) = scalar_kind x
