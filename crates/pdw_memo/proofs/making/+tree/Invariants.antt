use Rattle.std.proofs.Common.{◌≡◌, ◌+◌, ◌*◌, ◌++◌, true, map, sum, fold, drop}
use Rattle.std.specs.List.{list_all}
use Rattle.pdw_algebra.specs.Shape.{Shape, shape_of}
use Rattle.pdw_memo.specs.Building.{HasRoom, sides_of, with_node, written}
use Rattle.pdw_memo.specs.Memo.{node_count}
use Rattle.pdw_memo.proofs.making.+tree.Given as goal

abbrev pub invariant-add_leaves-loop-leaf : goal.invariant-add_leaves-loop-leaf
invariant-add_leaves-loop-leaf l = record {
  nodes : fold (with_node l.useful) l.building (map (written l.catalog) (drop l.leaf-index l.leaves)) ≡ fold (with_node l.useful) l.initial.building (map (written l.catalog) l.leaves);
  sides : l.sides.items ++ sides_of l.catalog l.building (drop l.leaf-index l.leaves) ≡ sides_of l.catalog l.initial.building l.leaves;
  room : HasRoom l.building (sum (map node_count (drop l.leaf-index l.leaves)));
  sound : list_all (λ (leaf : Shape). leaf.sound) (map (shape_of l.catalog) (drop l.leaf-index l.leaves)) ≡ true;
}

-- trees by their nodes, and leaves by the nodes of all
abbrev pub decreases-add_tree : goal.decreases-add_tree
decreases-add_tree l = 2 * node_count l.tree.now

abbrev pub decreases-add_leaves : goal.decreases-add_leaves
decreases-add_leaves l = 2 * sum (map node_count l.leaves.now) + 1
