-- Rows with their columns, as the environments that they stand for.
use Rattle.std.specs.Prelude.{Bool, List, [], ◌∷◌, Option, Some, None, map}
use Rattle.pdw_base.specs.Schema.{Columns, Env, cell, row_over}
use Rattle.pdw_base.specs.declared.schema.ColId.{ColId}
use Rattle.pdw_base.specs.declared.value.Kind.{Kind}
use Rattle.pdw_base.specs.declared.value.Kind.TheVariants as kind
use Rattle.pdw_base.specs.declared.value.Value.{Value}
use Rattle.pdw_base.specs.declared.value.Value.TheVariants.{Null}
use Rattle.pdw_expr.specs.Env.{or_else}
use Rattle.pdw_expr.specs.Aggregate.{aggregated}
use Rattle.pdw_expr.specs.Rows.{argument, key_of, meets}
use Rattle.pdw_expr.specs.declared.agg.Agg.{Agg}
use Rattle.pdw_expr.specs.declared.cond.Cond.{Cond}
use Rattle.pdw_interpreter.specs.declared.relation.Relation.{Relation}

-- what the rows stand for
abbrev pub environments : Relation → List Env
environments relation = map (cell relation.columns) relation.rows

-- a column of this number; its kind plays no part
abbrev pub numbered : ColId → ColId × Kind
numbered number = (number, kind.Int)

-- the row of other columns that stands for the same environment
abbrev pub aligned : Columns → Columns → List Value → List Value
aligned columns own row = row_over columns (cell own row)

-- all conditions are True of a row of these columns
abbrev pub meets_over : Columns → List Cond → List Value → Bool
meets_over columns conds row = meets conds (cell columns row)

abbrev pub value_or_null : Option Value → Value
value_or_null None = Null
value_or_null (Some value) = value

-- at each place the value of the first row, or where it is NULL or missing that of the second
abbrev pub merged : List Value → List Value → List Value
merged [] right = right
merged (first ∷ left) [] = first ∷ left
merged (first ∷ left) (second ∷ right) = or_else first second ∷ merged left right

-- what a row of these columns is grouped by
abbrev pub key_over : Columns → List ColId → List Value → List Value
key_over columns keys row = key_of keys (cell columns row)

-- the value of an aggregate over the rows of a group
abbrev pub aggregate_value : Agg → List Env → Value
aggregate_value agg rows = aggregated agg.kind (map (argument agg.arg) rows)
