use Rattle.std.proofs.Common.{◌≡◌, ◌++◌, drop}
use Rattle.pdw_groups.specs.Sets.{kept_between}
use Rattle.pdw_groups.proofs.sets.between.Given as goal

abbrev pub invariant-loop-place : goal.invariant-loop-place
invariant-loop-place l = l.some ++ kept_between (drop l.place l.conds) (drop l.place l.whole) (drop l.place l.left) (drop l.place l.right) ≡ kept_between l.conds l.whole l.left l.right
