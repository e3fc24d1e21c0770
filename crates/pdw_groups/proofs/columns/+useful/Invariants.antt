use Rattle.std.proofs.Common.{◌≡◌, ◌++◌, take}
use Rattle.std.specs.List.{flat_map}
use Rattle.pdw_groups.specs.Columns.{useful_columns}
use Rattle.pdw_groups.proofs.columns.+useful.Given as goal

abbrev pub invariant-add_leaves-loop-leaf : goal.invariant-add_leaves-loop-leaf
invariant-add_leaves-loop-leaf l = l.useful.items ≡ l.initial.useful.items ++ flat_map (useful_columns l.catalog) (take l.leaf-index l.leaves)
