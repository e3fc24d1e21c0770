use Rattle.std.proofs.Common.{◌≡◌, ◌++◌, map, take}
use Rattle.pdw_move.specs.declared.kinds.Prop.TheVariants.{Hash as ByHash}
use Rattle.pdw_rules.proofs.property.add_hashes.Given as goal

abbrev pub invariant-loop-column : goal.invariant-loop-column
invariant-loop-column l = l.list ≡ l.initial.list ++ map ByHash (take l.column-index l.interesting)
