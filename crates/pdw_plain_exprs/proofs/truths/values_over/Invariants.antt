use Rattle.std.proofs.Common.{◌≡◌, map, take}
use Rattle.pdw_semantics.specs.Environment.{group_of}
use Rattle.pdw_semantics.specs.Exprs.{value_of}
use Rattle.pdw_plain_exprs.proofs.truths.values_over.Given as goal

abbrev pub invariant-loop-other : goal.invariant-loop-other
invariant-loop-other l = l.values ≡ map (λ y. value_of y (group_of l.rows l.outers)) (take l.other-index l.list)
