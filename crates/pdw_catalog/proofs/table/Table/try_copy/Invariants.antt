use Rattle.std.proofs.Common.{◌≡◌, take}
use Rattle.pdw_catalog.proofs.table.Table.try_copy.Given as goal

abbrev pub invariant-loop-column : goal.invariant-loop-column
invariant-loop-column l = l.columns ≡ take l.column-index l.column-items
