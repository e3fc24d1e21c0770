-- What operators make of rows, each of which gives a value to every column, and NULL to those that it does not have.
use Rattle.std.specs.Prelude.{ℕ, ◌==◌, Bool, List, [], ◌∷◌, map, slice_index_or, fold, Option, Some, None, if◌then◌else◌}
use Rattle.std.specs.List.{filter, list_any}
use Rattle.pdw_base.specs.Schema.{Env}
use Rattle.pdw_base.specs.declared.schema.ColId.{ColId}
use Rattle.pdw_base.specs.declared.truth.Truth.TheVariants.{True}
use Rattle.pdw_base.specs.declared.value.Value.{Value}
use Rattle.pdw_base.specs.declared.value.Value.TheVariants.{Null}
use Rattle.pdw_expr.specs.Aggregate.{aggregated}
use Rattle.pdw_expr.specs.Cond.{all_true}
use Rattle.pdw_expr.specs.Env.{nulls, union}
use Rattle.pdw_expr.specs.Join.{anti_joined, crossed, full_joined, inner_joined, left_joined, semi_joined}
use Rattle.pdw_expr.specs.Logic.{is_truth}
use Rattle.pdw_expr.specs.Parts.{groups}
use Rattle.pdw_expr.specs.Scalar.{value_of}
use Rattle.pdw_expr.specs.declared.agg.Agg.{Agg}
use Rattle.pdw_expr.specs.declared.agg.JoinKind.{JoinKind}
use Rattle.pdw_expr.specs.declared.agg.JoinKind.TheVariants as kind
use Rattle.pdw_expr.specs.declared.cond.Cond.{Cond}
use Rattle.pdw_expr.specs.declared.scalar.Scalar.{Scalar}

-- a positional row, with these of its values: each number has its place, from 0
abbrev pub scanned : List (ColId × ℕ) → List Value → Env
scanned [] row c = Null
scanned (column ∷ columns) row c = if column.0.0 == c.0 then slice_index_or row column.1 Null else scanned columns row c

-- all conditions are True
abbrev pub meets : List Cond → Env → Bool
meets conds row = is_truth (all_true conds row) True

abbrev pub filtered : List Cond → List Env → List Env
filtered conds rows = filter (meets conds) rows

-- ---- projection

abbrev pub item_value : Env → ColId → Option Scalar → Value
item_value row c None = row c
item_value row c (Some x) = value_of x row

abbrev pub projected : List (ColId × Option Scalar) → Env → Env
projected [] row c = Null
projected (item ∷ items) row c = if item.0.0 == c.0 then item_value row item.0 item.1 else projected items row c

-- ---- joins

-- the unions of one row of each
abbrev pub products : List (List Env) → List Env
products leaves = fold (crossed union) (nulls ∷ []) leaves

abbrev pub itself : Env → Env
itself row = row

-- a row without partner has NULL in the columns of the other side
abbrev pub joined : JoinKind → List Cond → List Env → List Env → List Env
joined kind.Inner conds left right = inner_joined union (meets conds) left right
joined kind.Left conds left right = left_joined union (meets conds) itself left right
joined kind.Full conds left right = full_joined union (meets conds) itself itself left right
joined kind.Semi conds left right = semi_joined union (meets conds) left right
joined kind.Anti conds left right = anti_joined union (meets conds) left right

-- ---- groups

abbrev pub key_of : List ColId → Env → List Value
key_of keys row = map row keys

abbrev pub first_row : List Env → Env
first_row [] = nulls
first_row (row ∷ rows) = row

-- the keys alone, which are the same in each row of a group
abbrev pub key_cells : List ColId → Env → Env
key_cells keys row c = if list_any (λ key. key.0 == c.0) keys then row c else Null

-- COUNT of `*` has no argument: it counts rows
abbrev pub argument : Option Scalar → Env → Value
argument None row = Null
argument (Some x) row = value_of x row

abbrev pub aggregate_cells : List Agg → List Env → Env
aggregate_cells [] rows c = Null
aggregate_cells (agg ∷ aggs) rows c = if agg.out.0 == c.0 then aggregated agg.kind (map (argument agg.arg) rows) else aggregate_cells aggs rows c

abbrev pub group_row : List ColId → List Agg → List Env → Env
group_row keys aggs rows = union (key_cells keys (first_row rows)) (aggregate_cells aggs rows)

-- a row for each group, by rising keys; without keys exactly one
abbrev pub grouped : List ColId → List Agg → List Env → List Env
grouped keys aggs rows = map (group_row keys aggs) (groups keys (key_of keys) rows)
