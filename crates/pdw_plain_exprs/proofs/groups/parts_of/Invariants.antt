use Rattle.std.proofs.Common.{◌≡◌, filter, map, take}
use Rattle.pdw_expr.specs.Parts.{same_row}
use Rattle.pdw_semantics.specs.Queries.{key_of}
use Rattle.pdw_plain_exprs.proofs.groups.parts_of.Given as goal

abbrev pub invariant-loop-key : goal.invariant-loop-key
invariant-loop-key l = l.found ≡ map (λ key. filter (λ row. same_row (key_of l.references l.outers row) key) l.rows) (take l.key-index l.key-items)
