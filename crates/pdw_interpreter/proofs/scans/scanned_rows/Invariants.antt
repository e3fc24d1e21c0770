use Rattle.std.proofs.Common.{◌≡◌, map, take}
use Rattle.pdw_base.specs.Schema.{row_over}
use Rattle.pdw_expr.specs.Rows as operators
use Rattle.pdw_interpreter.proofs.scans.scanned_rows.Given as goal

abbrev pub invariant-loop-row : goal.invariant-loop-row
invariant-loop-row l = l.scanned ≡ map (λ row. row_over l.columns (operators.scanned l.cols row)) (take l.row-index l.rows)
