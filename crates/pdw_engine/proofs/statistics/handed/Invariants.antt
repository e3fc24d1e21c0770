use Rattle.std.proofs.Common.{◌≡◌, map, take}
use Rattle.std.specs.List.{enumerate_from}
use Rattle.pdw_engine.specs.Statistics.{handed_column}
use Rattle.pdw_engine.proofs.statistics.handed.Given as goal

abbrev pub invariant-loop-place : goal.invariant-loop-place
invariant-loop-place l = l.cols ≡ map (λ column. handed_column l.numbers column.0 column.1) (enumerate_from 0 (take l.place l.column-items))
