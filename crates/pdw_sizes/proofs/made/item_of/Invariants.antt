use Rattle.std.proofs.Common.{◌≡◌, None, take}
use Rattle.std.specs.Map.{lookup}
use Rattle.pdw_sizes.specs.Estimate.{is_number}
use Rattle.pdw_sizes.proofs.made.item_of.Given as goal

abbrev pub invariant-loop-item : goal.invariant-loop-item
invariant-loop-item l = lookup (is_number l.c) (take l.item-index l.items) ≡ None
