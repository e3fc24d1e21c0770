use Rattle.std.proofs.Common.{◌≡◌, take}
use Rattle.pdw_base.proofs.row.Row.try_copy.Given as goal

abbrev pub invariant-loop-cell : goal.invariant-loop-cell
invariant-loop-cell l = l.cells.items ≡ take l.cell-index l.cell-items
