use Rattle.std.proofs.Common.{◌≡◌, map, take}
use Rattle.pdw_interpreter.specs.Relation as spec
use Rattle.pdw_interpreter.proofs.groups.aggregate_columns.Given as goal

abbrev pub invariant-loop-agg : goal.invariant-loop-agg
invariant-loop-agg l = l.columns.items ≡ map (λ agg. spec.numbered agg.out) (take l.agg-index l.aggs)
