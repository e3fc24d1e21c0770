use Rattle.std.proofs.Common.{◌≡◌, map}
use Rattle.pdw_groups.specs.Level.{below}
use Rattle.pdw_groups.specs.Sets.{flags, schemas}
use Rattle.pdw_groups.proofs.sets.all_inside.Given as goal

abbrev pub invariant-loop-mask : goal.invariant-loop-mask
invariant-loop-mask l = l.all.items ≡ map (flags (schemas l.sides) l.conds) (below l.mask)
