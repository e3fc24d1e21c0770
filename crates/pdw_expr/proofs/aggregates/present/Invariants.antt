use Rattle.std.proofs.Common.{◌≡◌, take}
use Rattle.pdw_expr.specs.Aggregate.{present}
use Rattle.pdw_expr.proofs.aggregates.present.Given as goal

abbrev pub invariant-loop-value : goal.invariant-loop-value
invariant-loop-value l = l.kept ≡ present (take l.value-index l.values)
