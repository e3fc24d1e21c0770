use Rattle.std.proofs.Common.{◌≡◌, filter, take}
use Rattle.pdw_interpreter.specs.Relation as spec
use Rattle.pdw_expr.specs.Parts.{same_row}
use Rattle.pdw_interpreter.proofs.groups.part_of.Given as goal

abbrev pub invariant-loop-row : goal.invariant-loop-row
invariant-loop-row l = l.part ≡ filter (λ row. same_row (spec.key_over l.columns l.keys row) l.key) (take l.row-index l.rows)
