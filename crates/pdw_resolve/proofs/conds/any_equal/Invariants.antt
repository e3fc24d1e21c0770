use Rattle.std.proofs.Common.{◌≡◌, map, take}
use Rattle.pdw_expr.specs.declared.cond.Cmp.TheVariants.{Eq}
use Rattle.pdw_expr.specs.declared.cond.Cond.TheVariants as condition_is
use Rattle.pdw_resolve.proofs.conds.any_equal.Given as goal

abbrev pub invariant-loop-other : goal.invariant-loop-other
invariant-loop-other l = l.parts ≡ map (λ other. condition_is.Compare Eq l.value other.scalar) (take l.other-index l.values)
