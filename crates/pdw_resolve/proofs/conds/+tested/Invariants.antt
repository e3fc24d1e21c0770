use Rattle.std.proofs.Common.{map}
use Rattle.std.specs.List.{flat_map}
use Rattle.pdw_walk.specs.Conds.{tested_after}
use Rattle.pdw_walk.specs.Queries.{condition}
use Rattle.pdw_resolve.proofs.Turns.{Left}
use Rattle.pdw_resolve.proofs.conds.+tested.Given as goal

abbrev pub invariant-tested_parts-loop-part : goal.invariant-tested_parts-loop-part
invariant-tested_parts-loop-part l =
    Left (λ before part. tested_after l.place before (condition part).conjuncts)
    (tested_after l.place l.fn.before (flat_map (λ part. part.conjuncts) (map condition l.fn.parts)) l.initial.walk) l.parts l.part-index l.found l.walk
