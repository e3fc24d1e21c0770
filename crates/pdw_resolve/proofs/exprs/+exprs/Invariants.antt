use Rattle.pdw_walk.specs.Exprs as spec
use Rattle.pdw_walk.specs.Walk.{each}
use Rattle.pdw_resolve.proofs.Turns.{LeftEach}
use Rattle.pdw_resolve.proofs.exprs.+exprs.Given as goal

abbrev pub invariant-operands-loop-link : goal.invariant-operands-loop-link
invariant-operands-loop-link l =
    LeftEach (spec.operand_of l.place) (each (spec.operand_of l.fn.place) l.fn.rest l.fn.walk) l.rest l.link-index l.found.items l.walk
