use Rattle.std.proofs.Common.{[], take}
use Rattle.pdw_stats.specs.Known.{Sees}
use Rattle.pdw_stats.specs.Measured.{column_at}
use Rattle.pdw_stats.proofs.ColumnLemmas.{all_rows}
use Rattle.pdw_stats.proofs.measuring.count_known.Given as goal

abbrev pub invariant-loop-part : goal.invariant-loop-part
invariant-loop-part l = Sees [] l.seen.keys (column_at l.place (all_rows (take l.part-index l.parts)))
