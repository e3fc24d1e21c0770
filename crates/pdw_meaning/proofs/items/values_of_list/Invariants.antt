use Rattle.std.proofs.Common.{◌≡◌, take}
use Rattle.std.specs.List.{flat_map}
use Rattle.pdw_semantics.specs.Environment.{group_of}
use Rattle.pdw_semantics.specs.Queries.{item_values}
use Rattle.pdw_meaning.proofs.items.values_of_list.Given as goal

abbrev pub invariant-loop-item : goal.invariant-loop-item
invariant-loop-item l = l.values.items ≡ flat_map (item_values (group_of l.rows l.outers)) (take l.item-index l.items)
