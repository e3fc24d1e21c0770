use Rattle.std.proofs.Common.{◌≡◌, take}
use Rattle.pdw_algebra.proofs.copies.items_copy.Given as goal

abbrev pub invariant-loop-item : goal.invariant-loop-item
invariant-loop-item l = l.copy ≡ take l.item-index l.items
