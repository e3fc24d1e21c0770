use Rattle.std.proofs.Common.{◌≡◌, map, take}
use Rattle.pdw_base.specs.Schema.{cell, row_over}
use Rattle.pdw_expr.specs.Rows as operators
use Rattle.pdw_interpreter.proofs.groups.group_row.Given as goal

abbrev pub invariant-loop-column : goal.invariant-loop-column
invariant-loop-column l = l.values.items ≡ row_over (take l.column-index l.column-items) (operators.group_row l.keys l.aggs (map (cell l.columns) l.group))
