use Rattle.std.proofs.Common.{◌≡◌, take}
use Rattle.pdw_groups.specs.Level.{set_of}
use Rattle.pdw_groups.specs.Sets.{schemas}
use Rattle.pdw_parts.specs.Part.{columns_in}
use Rattle.pdw_groups.proofs.sets.part_columns.Given as goal

abbrev pub invariant-loop-leaf : goal.invariant-loop-leaf
invariant-loop-leaf l = l.columns.items ≡ columns_in (set_of l.mask) (schemas (take l.leaf l.sides))
