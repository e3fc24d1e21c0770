use Rattle.std.proofs.Common.{◌≡◌, fold, take}
use Rattle.pdw_expr.specs.Aggregate.{greater}
use Rattle.pdw_expr.proofs.aggregates.greatest.Given as goal

abbrev pub invariant-loop-value : goal.invariant-loop-value
invariant-loop-value l = l.greatest ≡ fold greater l.initial.greatest (take l.value-index l.rest)
