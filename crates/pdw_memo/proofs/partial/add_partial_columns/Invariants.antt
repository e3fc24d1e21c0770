use Rattle.std.proofs.Common.{◌≡◌, ◌++◌, map, take}
use Rattle.pdw_groups.specs.Columns.{partial_column}
use Rattle.pdw_memo.proofs.partial.add_partial_columns.Given as goal

abbrev pub invariant-loop-agg : goal.invariant-loop-agg
invariant-loop-agg l = l.columns.items ≡ l.initial.columns.items ++ map (partial_column l.input) (take l.agg-index l.aggs)
