use Rattle.std.proofs.Common.{◌≡◌, map, take}
use Rattle.pdw_bind.proofs.groups.item_numbers.Given as goal

abbrev pub invariant-loop-item : goal.invariant-loop-item
invariant-loop-item l = l.numbers ≡ map (λ item. item.out) (take l.item-index l.items)
