use Rattle.std.proofs.Common.{◌≡◌, drop, map}
use Rattle.pdw_base.specs.Schema.{cell}
use Rattle.pdw_expr.specs.Rows as operators
use Rattle.pdw_interpreter.proofs.groups.aggregate_cell.Given as goal

abbrev pub invariant-loop-agg : goal.invariant-loop-agg
invariant-loop-agg l = operators.aggregate_cells (drop l.agg-index l.aggs) (map (cell l.columns) l.group) l.c ≡ operators.aggregate_cells l.aggs (map (cell l.columns) l.group) l.c
