use Rattle.std.proofs.Common.{◌≡◌, filter, take}
use Rattle.pdw_interpreter.specs.Relation as spec
use Rattle.pdw_interpreter.proofs.filters.kept.Given as goal

abbrev pub invariant-loop-row : goal.invariant-loop-row
invariant-loop-row l = l.kept ≡ filter (spec.meets_over l.columns l.conds) (take l.row-index l.rows)
