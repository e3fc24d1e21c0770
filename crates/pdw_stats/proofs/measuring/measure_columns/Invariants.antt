use Rattle.std.proofs.Common.{◌≡◌, map, take}
use Rattle.std.specs.List.{enumerate_from}
use Rattle.pdw_stats.specs.Measured.{column_at, measured_column}
use Rattle.pdw_stats.proofs.ColumnLemmas.{all_rows}
use Rattle.pdw_stats.proofs.measuring.measure_columns.Given as goal

abbrev pub invariant-loop-place : goal.invariant-loop-place
invariant-loop-place l = l.cols ≡ map (λ numbered. measured_column numbered.1.kind (column_at numbered.0 (all_rows l.parts))) (enumerate_from 0 (take l.place l.columns))
