use Rattle.pdw_walk.specs.Exprs.{expr}
use Rattle.pdw_walk.specs.Walk.{each}
use Rattle.pdw_resolve.proofs.Turns.{LeftEach}
use Rattle.pdw_resolve.proofs.conds.exprs.Given as goal

abbrev pub invariant-loop-value : goal.invariant-loop-value
invariant-loop-value l = LeftEach (λ value. expr value l.place) (each (λ value. expr value l.place) l.fn.values l.fn.walk) l.values l.value-index l.found l.walk
