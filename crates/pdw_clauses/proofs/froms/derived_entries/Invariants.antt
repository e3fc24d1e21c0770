use Rattle.std.proofs.Common.{◌≡◌, map, take}
use Rattle.pdw_walk.specs.Froms.{derived_entry}
use Rattle.pdw_clauses.proofs.froms.derived_entries.Given as goal

abbrev pub invariant-loop-output : goal.invariant-loop-output
invariant-loop-output l = l.entries ≡ map (derived_entry l.alias) (take l.output-index l.outputs)
