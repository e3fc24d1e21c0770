use Rattle.std.proofs.Common.{◌≡◌, drop}
use Rattle.pdw_expr.specs.Rows as operators
use Rattle.pdw_interpreter.proofs.scans.scanned_cell.Given as goal

abbrev pub invariant-loop-col : goal.invariant-loop-col
invariant-loop-col l = operators.scanned (drop l.col-index l.cols) l.row l.c ≡ operators.scanned l.cols l.row l.c
