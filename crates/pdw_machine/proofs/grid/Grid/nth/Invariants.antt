use Rattle.std.proofs.Common.{◌≡◌, ◌+◌, drop}
use Rattle.pdw_machine.specs.Flags.{grid_row, grid_place}
use Rattle.pdw_machine.proofs.grid.Grid.nth.Given as goal

abbrev pub invariant-loop-row : goal.invariant-loop-row
invariant-loop-row l = (l.row + grid_row (drop l.row l.flags-items) l.left ≡ grid_row l.flags-items l.k) × (grid_place (drop l.row l.flags-items) l.left ≡ grid_place l.flags-items l.k)
