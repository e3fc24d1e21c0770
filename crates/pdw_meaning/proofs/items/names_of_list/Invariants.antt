use Rattle.std.proofs.Common.{◌≡◌, take}
use Rattle.pdw_semantics.specs.Queries.{names_of_list}
use Rattle.pdw_meaning.proofs.items.names_of_list.Given as goal

abbrev pub invariant-loop-item : goal.invariant-loop-item
invariant-loop-item l = l.names.items ≡ names_of_list l.labels (take l.item-index l.items)
