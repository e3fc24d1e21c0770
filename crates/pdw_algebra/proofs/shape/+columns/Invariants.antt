use Rattle.std.proofs.Common.{◌≡◌, take}
use Rattle.std.specs.List.{flat_map}
use Rattle.pdw_algebra.specs.Shape.{columns_of}
use Rattle.pdw_algebra.proofs.shape.+columns.Given as goal

abbrev pub invariant-leaf_columns-loop-leaf : goal.invariant-leaf_columns-loop-leaf
invariant-leaf_columns-loop-leaf l = l.columns.items ≡ flat_map (columns_of l.catalog) (take l.leaf-index l.leaves)
