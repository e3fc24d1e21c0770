use Rattle.std.proofs.Common.{◌≡◌, drop}
use Rattle.pdw_ways.specs.Ways as way
use Rattle.pdw_plan.proofs.exprs.are_groups_of.Given as goal

abbrev pub invariant-loop-place : goal.invariant-loop-place
invariant-loop-place l = way.are_groups_of (drop l.place l.below) (drop l.place l.children) ≡ way.are_groups_of l.fn.below l.fn.children
