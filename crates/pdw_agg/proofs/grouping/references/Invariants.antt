use Rattle.std.proofs.Common.{◌≡◌, map, take}
use Rattle.pdw_agg.proofs.grouping.references.Given as goal

abbrev pub invariant-loop-row : goal.invariant-loop-row
invariant-loop-row l = map (λ row. row.now) l.all.items ≡ take l.row-index l.rows
