use Rattle.std.proofs.Common.{◌≡◌, filter, take}
use Rattle.pdw_expr.specs.Parts.{same_row}
use Rattle.pdw_semantics.specs.Queries.{key_of}
use Rattle.pdw_plain_exprs.proofs.groups.part_of.Given as goal

abbrev pub invariant-loop-row : goal.invariant-loop-row
invariant-loop-row l = l.part ≡ filter (λ row. same_row (key_of l.references l.outers row) l.key) (take l.row-index l.rows)
