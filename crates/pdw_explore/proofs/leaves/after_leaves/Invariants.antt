use Rattle.std.proofs.Common.{◌≡◌, take}
use Rattle.pdw_explore.specs.Grown.{after_leaves}
use Rattle.pdw_explore.proofs.leaves.after_leaves.Given as goal

abbrev pub invariant-loop-side : goal.invariant-loop-side
invariant-loop-side l = l.after ≡ after_leaves (take l.side-index l.sides)
