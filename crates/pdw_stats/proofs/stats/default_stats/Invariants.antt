use Rattle.std.proofs.Common.{◌≡◌, map, take}
use Rattle.pdw_stats.specs.Stats.{usual_width}
use Rattle.pdw_stats.proofs.stats.default_stats.Given as goal

abbrev pub invariant-loop-column : goal.invariant-loop-column
invariant-loop-column l = l.cols ≡ map (λ column. record { distinct = 100; width = usual_width column.kind }) (take l.column-index l.column-items)
