use Rattle.std.proofs.Common.{◌≡◌, take}
use Rattle.pdw_semantics.specs.Queries.{key_of}
use Rattle.pdw_plain_exprs.proofs.groups.key_of.Given as goal

abbrev pub invariant-loop-reference : goal.invariant-loop-reference
invariant-loop-reference l = l.values.items ≡ key_of (take l.reference-index l.references) l.outers l.row
