use Rattle.std.proofs.Common.{◌≡◌, map, take}
use Rattle.pdw_interpreter.specs.Relation as spec
use Rattle.pdw_interpreter.proofs.groups.keys_of.Given as goal

abbrev pub invariant-loop-row : goal.invariant-loop-row
invariant-loop-row l = l.found ≡ map (spec.key_over l.columns l.keys) (take l.row-index l.rows)
