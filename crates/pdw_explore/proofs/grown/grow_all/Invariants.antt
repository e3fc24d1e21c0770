use Rattle.std.proofs.Common.{◌≡◌, length, reverse}
use Rattle.pdw_explore.specs.Grown.{CanGrow, grown_all, nothing}
use Rattle.pdw_explore.proofs.grown.grow_all.Given as goal

abbrev pub invariant-loop-group : goal.invariant-loop-group
invariant-loop-group l = record {
  all : grown_all l.blocks l.levels l.grown (reverse l.groups) ≡ grown_all l.blocks l.levels nothing (reverse l.initial.groups);
  can : CanGrow l.blocks l.levels l.grown (reverse l.groups);
}

abbrev pub decreases-loop-group : goal.decreases-loop-group
decreases-loop-group l = length l.groups
