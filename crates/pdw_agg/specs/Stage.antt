-- What is made of the rows of each group: the values of its aggregates, what they keep of these rows, or their values by what
-- they kept of parts.
use Rattle.std.specs.Prelude.{◌==◌, List, [], ◌∷◌, map, if◌then◌else◌}
use Rattle.pdw_agg.specs.declared.stage.Stage.{Stage}
use Rattle.pdw_agg.specs.declared.stage.Stage.TheVariants.{Whole, Partial, Final}
use Rattle.pdw_base.specs.Schema.{Env}
use Rattle.pdw_base.specs.declared.value.Value.{Value}
use Rattle.pdw_base.specs.declared.value.Value.TheVariants.{Null}
use Rattle.pdw_expr.specs.Aggregate.{final_value, partial_value}
use Rattle.pdw_expr.specs.Env.{union}
use Rattle.pdw_expr.specs.Parts.{groups}
use Rattle.pdw_expr.specs.Rows.{argument, first_row, key_cells, key_of}
use Rattle.pdw_expr.specs.declared.agg.Agg.{Agg}
use Rattle.pdw_partial.specs.Partial.{merged}
use Rattle.pdw_agg.specs.Running as running
use Rattle.pdw_base.specs.declared.schema.ColId.{ColId}

-- what one row adds to an aggregate
abbrev pub one_value : Stage → Agg → Env → Value
one_value Whole agg row = running.alone agg.kind (argument agg.arg row)
one_value Partial agg row = running.alone agg.kind (argument agg.arg row)
one_value Final agg row = running.again agg.kind (row agg.out)

abbrev pub kept_value : Stage → Agg → List Env → Value
kept_value Whole agg rows = partial_value agg.kind (map (argument agg.arg) rows)
kept_value Partial agg rows = partial_value agg.kind (map (argument agg.arg) rows)
kept_value Final agg rows = merged agg.kind (map (λ row. row agg.out) rows)

-- partial rows keep wide numbers
abbrev pub made_value : Stage → Value → Value
made_value Whole value = final_value value
made_value Partial value = value
made_value Final value = final_value value

abbrev pub cell_value : Stage → Agg → List Env → Value
cell_value stage agg rows = made_value stage (kept_value stage agg rows)

-- in the column of each aggregate its value
abbrev pub value_cells : Stage → List Agg → List Env → Env
value_cells stage [] rows c = Null
value_cells stage (agg ∷ aggs) rows c = if agg.out.0 == c.0 then cell_value stage agg rows else value_cells stage aggs rows c

abbrev pub made_row : Stage → List ColId → List Agg → List Env → Env
made_row stage keys aggs rows = union (key_cells keys (first_row rows)) (value_cells stage aggs rows)

-- a row for each group
abbrev pub made_rows : Stage → List ColId → List Agg → List Env → List Env
made_rows stage keys aggs rows = map (made_row stage keys aggs) (groups keys (key_of keys) rows)
