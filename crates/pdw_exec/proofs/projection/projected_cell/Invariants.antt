use Rattle.std.proofs.Common.{◌≡◌, drop}
use Rattle.pdw_base.specs.Schema.{cell}
use Rattle.pdw_expr.specs.Rows as operators
use Rattle.pdw_exec.proofs.projection.projected_cell.Given as goal

abbrev pub invariant-loop-item : goal.invariant-loop-item
invariant-loop-item l = operators.projected (drop l.item-index l.items) (cell l.own l.row) l.c ≡ operators.projected l.items (cell l.own l.row) l.c
