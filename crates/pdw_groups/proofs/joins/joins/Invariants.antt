use Rattle.std.proofs.Common.{◌≡◌, map, filter}
use Rattle.pdw_groups.specs.Level.{below, is_left}
use Rattle.pdw_groups.specs.Sets.{join_at}
use Rattle.pdw_groups.proofs.joins.joins.Given as goal

abbrev pub invariant-loop-left : goal.invariant-loop-left
invariant-loop-left l = l.exprs ≡ map (join_at l.conds l.insides l.parts l.mask) (filter (is_left l.level l.mask) (below l.left))
