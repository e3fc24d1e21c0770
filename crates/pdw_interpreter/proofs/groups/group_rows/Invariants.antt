use Rattle.std.proofs.Common.{◌≡◌, map, take}
use Rattle.pdw_base.specs.Schema.{cell, row_over}
use Rattle.pdw_expr.specs.Rows as operators
use Rattle.pdw_interpreter.proofs.groups.group_rows.Given as goal

abbrev pub invariant-loop-group : goal.invariant-loop-group
invariant-loop-group l = l.rows ≡ map (λ group. row_over l.made (operators.group_row l.keys l.aggs (map (cell l.columns) group))) (take l.group-index l.groups)
