use Rattle.std.proofs.Common.{◌≡◌, fold, take}
use Rattle.pdw_expr.specs.Aggregate.{lesser}
use Rattle.pdw_expr.proofs.aggregates.least.Given as goal

abbrev pub invariant-loop-value : goal.invariant-loop-value
invariant-loop-value l = l.least ≡ fold lesser l.initial.least (take l.value-index l.rest)
