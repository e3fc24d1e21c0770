use Rattle.std.proofs.Common.{◌≡◌, take}
use Rattle.pdw_groups.specs.Columns as spec
use Rattle.pdw_groups.proofs.columns.least_at.Given as goal

abbrev pub invariant-loop-col : goal.invariant-loop-col
invariant-loop-col l = l.least ≡ spec.least_at l.place (take l.col-index l.cols)
