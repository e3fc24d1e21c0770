use Rattle.std.proofs.Common.{◌≡◌, ◌++◌, ◌+◌, ◌≤◌, length, map}
use Rattle.pdw_groups.specs.Level.{below}
use Rattle.pdw_groups.specs.Sets.{kept_part, kept_sets}
use Rattle.pdw_groups.proofs.set_groups.add_sets.Given as goal

abbrev pub invariant-loop-mask : goal.invariant-loop-mask
invariant-loop-mask l = record {
  groups : l.groups ≡ l.initial.groups ++ kept_sets l.useful l.block l.level l.sides l.conds l.singles (length l.initial.groups) l.mask;
  parts : l.parts.items ≡ map (kept_part l.level l.singles (length l.initial.groups)) (below l.mask);
  room : length l.groups ≤ length l.initial.groups + l.mask;
}
