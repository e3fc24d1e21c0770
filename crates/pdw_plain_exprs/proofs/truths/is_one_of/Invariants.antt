use Rattle.std.proofs.Common.{◌≡◌, take}
use Rattle.pdw_expr.specs.Predicates.{is_one_of}
use Rattle.pdw_plain_exprs.proofs.truths.is_one_of.Given as goal

abbrev pub invariant-loop-other : goal.invariant-loop-other
invariant-loop-other l = l.truth ≡ is_one_of l.value (take l.other-index l.list)
