use Rattle.std.proofs.Common.{◌≡◌, take}
use Rattle.pdw_base.specs.Schema.{cell, row_over}
use Rattle.pdw_expr.specs.Rows as operators
use Rattle.pdw_exec.proofs.projection.projected_row.Given as goal

abbrev pub invariant-loop-column : goal.invariant-loop-column
invariant-loop-column l = l.values.items ≡ row_over (take l.column-index l.column-items) (operators.projected l.items (cell l.own l.row))
