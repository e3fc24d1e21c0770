use Rattle.std.proofs.Common.{◌≡◌, ◌≤◌, ◌*◌, take}
use Rattle.pdw_machine.specs.Flags.{grid_count}
use Rattle.pdw_machine.proofs.grid.Grid.count.Given as goal

abbrev pub invariant-loop-row : goal.invariant-loop-row
invariant-loop-row l = (l.count ≡ grid_count (take l.row-index l.row-items)) × (l.count ≤ 17 * l.row-index)
