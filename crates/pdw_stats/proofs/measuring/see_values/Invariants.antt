use Rattle.std.proofs.Common.{take}
use Rattle.pdw_stats.specs.Known.{Sees}
use Rattle.pdw_stats.specs.Measured.{column_at}
use Rattle.pdw_stats.proofs.measuring.see_values.Given as goal

abbrev pub invariant-loop-row : goal.invariant-loop-row
invariant-loop-row l = Sees l.initial.seen.keys l.seen.keys (column_at l.place (take l.row-index l.rows))
