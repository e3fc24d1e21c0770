use Rattle.std.proofs.Common.{◌≡◌, sum_by, take}
use Rattle.pdw_stats.specs.Measured.{bytes_of, column_at}
use Rattle.pdw_stats.proofs.measuring.bytes_in.Given as goal

abbrev pub invariant-loop-row : goal.invariant-loop-row
invariant-loop-row l = l.bytes ≡ sum_by bytes_of (column_at l.place (take l.row-index l.rows))
