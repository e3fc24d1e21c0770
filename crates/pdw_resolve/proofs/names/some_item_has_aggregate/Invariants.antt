use Rattle.std.proofs.Common.{◌≡◌, drop}
use Rattle.std.specs.List.{list_any}
use Rattle.pdw_walk.specs.Names as spec
use Rattle.pdw_resolve.proofs.names.some_item_has_aggregate.Given as goal

abbrev pub invariant-loop-item : goal.invariant-loop-item
invariant-loop-item l = list_any spec.item_aggregates (drop l.item-index l.items) ≡ list_any spec.item_aggregates l.items
