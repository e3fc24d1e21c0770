use Rattle.std.proofs.Common.{◌≡◌, map, take}
use Rattle.pdw_algebra.specs.Shape.{aggregate_column}
use Rattle.pdw_algebra.proofs.shape.aggregate_columns.Given as goal

abbrev pub invariant-loop-agg : goal.invariant-loop-agg
invariant-loop-agg l = l.grouped.items ≡ map (aggregate_column l.columns) (take l.agg-index l.aggs)
