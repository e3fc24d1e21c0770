use Rattle.std.proofs.Common.{◌≡◌, map, take}
use Rattle.pdw_algebra.specs.Shape.{item_column}
use Rattle.pdw_exec.proofs.projection.item_columns.Given as goal

abbrev pub invariant-loop-item : goal.invariant-loop-item
invariant-loop-item l = l.made.items ≡ map (item_column l.columns) (take l.item-index l.items)
