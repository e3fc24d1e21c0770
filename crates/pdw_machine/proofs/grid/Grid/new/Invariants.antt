use Rattle.std.proofs.Common.{◌≡◌, false, replicate}
use Rattle.pdw_machine.proofs.grid.Grid.new.Given as goal

abbrev pub invariant-loop-row : goal.invariant-loop-row
invariant-loop-row l = l.rows.items ≡ replicate l._row (replicate l.len false)
