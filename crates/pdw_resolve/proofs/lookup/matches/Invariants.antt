use Rattle.pdw_walk.specs.Lookup as spec
use Rattle.pdw_resolve.specs.Matches.{seen}
use Rattle.pdw_resolve.proofs.Matches.{Seen}
use Rattle.pdw_resolve.proofs.lookup.matches.Given as goal

abbrev pub invariant-loop-entry : goal.invariant-loop-entry
invariant-loop-entry l = Seen (spec.fits l.reference) l.scope l.entry-index (seen l.found)
