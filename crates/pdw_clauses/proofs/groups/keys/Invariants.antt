use Rattle.pdw_walk.specs.Lookup.{column}
use Rattle.pdw_walk.specs.Walk.{each}
use Rattle.pdw_resolve.proofs.Turns.{LeftEach}
use Rattle.pdw_clauses.proofs.groups.keys.Given as goal

abbrev pub invariant-loop-reference : goal.invariant-loop-reference
invariant-loop-reference l = LeftEach (column l.place) (each (column l.place) l.fn.references l.fn.walk) l.references l.reference-index l.found l.walk
