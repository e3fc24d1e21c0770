use Rattle.std.proofs.Common.{map}
use Rattle.pdw_walk.specs.Conds.{tests}
use Rattle.pdw_walk.specs.Queries.{condition}
use Rattle.pdw_resolve.proofs.Turns.{LeftEach}
use Rattle.pdw_resolve.proofs.conds.+conditions.Given as goal

abbrev pub invariant-tests-loop-part : goal.invariant-tests-loop-part
invariant-tests-loop-part l =
    LeftEach (λ part. (condition part).test l.place) (tests (map condition l.fn.parts) l.place l.initial.walk) l.parts l.part-index l.found l.walk
