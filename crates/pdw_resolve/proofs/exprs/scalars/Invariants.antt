use Rattle.std.proofs.Common.{◌≡◌, map}
use Rattle.pdw_resolve.proofs.exprs.scalars.Given as goal

abbrev pub invariant-loop-operator : goal.invariant-loop-operator
invariant-loop-operator l = l.scalars ≡ map (λ link. (link.0, link.1.scalar)) l.yielded
