use Rattle.std.proofs.Common.{◌≡◌, map, take}
use Rattle.pdw_memo.proofs.block.leaf_groups.Given as goal

abbrev pub invariant-loop-side : goal.invariant-loop-side
invariant-loop-side l = l.groups ≡ map (λ side. side.group) (take l.side-index l.sides)
