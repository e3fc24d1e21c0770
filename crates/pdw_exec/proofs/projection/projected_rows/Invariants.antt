use Rattle.std.proofs.Common.{◌≡◌, map, take}
use Rattle.pdw_base.specs.Schema.{cell, row_over}
use Rattle.pdw_expr.specs.Rows as operators
use Rattle.pdw_exec.proofs.projection.projected_rows.Given as goal

abbrev pub invariant-loop-row : goal.invariant-loop-row
invariant-loop-row l = l.projected ≡ map (λ row. row_over l.columns (operators.projected l.items (cell l.own row))) (take l.row-index l.rows)
