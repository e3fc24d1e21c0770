use Rattle.std.proofs.Common.{◌≡◌, map, take}
use Rattle.pdw_semantics.specs.Queries.{key_of}
use Rattle.pdw_plain_exprs.proofs.groups.keys_of.Given as goal

abbrev pub invariant-loop-row : goal.invariant-loop-row
invariant-loop-row l = l.keys ≡ map (key_of l.references l.outers) (take l.row-index l.rows)
