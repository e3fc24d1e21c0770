use Rattle.std.proofs.Common.{◌≡◌, take}
use Rattle.pdw_form.specs.Columns as spec
use Rattle.pdw_bind.proofs.groups.each_item_once.Given as goal

abbrev pub invariant-loop-item : goal.invariant-loop-item
invariant-loop-item l = l.once ≡ spec.each_item_once (take l.item-index l.items)
