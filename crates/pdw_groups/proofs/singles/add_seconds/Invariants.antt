use Rattle.std.proofs.Common.{◌≡◌, ◌++◌, ◌+◌, ◌≤◌, length, take}
use Rattle.pdw_groups.specs.Sets.{kept_seconds, kept_singles}
use Rattle.pdw_groups.proofs.singles.add_seconds.Given as goal

abbrev pub invariant-loop-place : goal.invariant-loop-place
invariant-loop-place l = record {
  groups : l.groups ≡ l.initial.groups ++ kept_seconds l.conds l.useful l.block 0 (take l.place l.sides);
  singles : l.singles ≡ kept_singles l.conds (length l.initial.groups) (take l.place l.sides);
  room : length l.groups ≤ length l.initial.groups + l.place;
}
