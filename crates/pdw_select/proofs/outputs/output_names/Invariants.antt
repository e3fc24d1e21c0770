use Rattle.std.proofs.Common.{◌≡◌, map, take}
use Rattle.pdw_select.proofs.outputs.output_names.Given as goal

abbrev pub invariant-loop-item : goal.invariant-loop-item
invariant-loop-item l = l.names ≡ map (λ item. item.name) (take l.item-index l.items)
