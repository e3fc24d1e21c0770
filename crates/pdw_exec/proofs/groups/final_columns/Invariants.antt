use Rattle.std.proofs.Common.{◌≡◌, ◌++◌, map, take}
use Rattle.pdw_agg.specs.Columns.{final_column}
use Rattle.pdw_algebra.specs.Shape.{key_column}
use Rattle.pdw_exec.proofs.groups.final_columns.Given as goal

abbrev pub invariant-loop-agg : goal.invariant-loop-agg
invariant-loop-agg l = l.made.items ≡ map (key_column l.columns) l.keys ++ map (final_column l.columns) (take l.agg-index l.aggs)
