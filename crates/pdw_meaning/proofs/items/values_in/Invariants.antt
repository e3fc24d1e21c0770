use Rattle.std.proofs.Common.{◌≡◌, map, take}
use Rattle.pdw_meaning.proofs.items.values_in.Given as goal

abbrev pub invariant-loop-cell : goal.invariant-loop-cell
invariant-loop-cell l = l.values.items ≡ map (λ cell. cell.value) (take l.cell-index l.cells)
