use Rattle.std.proofs.Common.{◌≡◌, map, take}
use Rattle.pdw_semantics.specs.Environment.{labelled}
use Rattle.pdw_meaning.proofs.elements.labelled_rows.Given as goal

abbrev pub invariant-loop-row : goal.invariant-loop-row
invariant-loop-row l = l.scopes ≡ map (labelled l.labels) (take l.row-index l.rows)
