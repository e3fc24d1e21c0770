use Rattle.std.proofs.Common.{◌≡◌, filter, map, take}
use Rattle.pdw_interpreter.specs.Relation as spec
use Rattle.pdw_expr.specs.Parts.{same_row}
use Rattle.pdw_interpreter.proofs.groups.parts_of.Given as goal

abbrev pub invariant-loop-key : goal.invariant-loop-key
invariant-loop-key l = l.found ≡ map (λ key. filter (λ row. same_row (spec.key_over l.columns l.keys row) key) l.rows) (take l.key-index l.key-items)
