use Rattle.std.proofs.Common.{◌≡◌, sum_by, take}
use Rattle.pdw_stats.specs.Measured.{bytes_of, column_at}
use Rattle.pdw_stats.proofs.ColumnLemmas.{all_rows}
use Rattle.pdw_stats.proofs.measuring.bytes_at.Given as goal

abbrev pub invariant-loop-part : goal.invariant-loop-part
invariant-loop-part l = l.bytes ≡ sum_by bytes_of (column_at l.place (all_rows (take l.part-index l.parts)))
