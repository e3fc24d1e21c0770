use Rattle.std.proofs.Common.{◌≡◌, ◌+◌, ◌++◌, ◌≤◌, drop}
use Rattle.pdw_groups.specs.Sets.{kept_singles}
use Rattle.pdw_explore.proofs.leaves.singles.Given as goal

abbrev pub invariant-loop-side : goal.invariant-loop-side
invariant-loop-side l = record {
  singles : l.singles ++ kept_singles l.conds l.next (drop l.side-index l.sides) ≡ kept_singles l.conds l.first l.sides;
  next : l.next ≤ l.first + l.side-index;
}
