use Rattle.std.proofs.Common.{◌≡◌, map, take}
use Rattle.pdw_interpreter.specs.Relation as spec
use Rattle.pdw_interpreter.proofs.projection.item_columns.Given as goal

abbrev pub invariant-loop-item : goal.invariant-loop-item
invariant-loop-item l = l.columns.items ≡ map (λ item. spec.numbered item.0) (take l.item-index l.items)
