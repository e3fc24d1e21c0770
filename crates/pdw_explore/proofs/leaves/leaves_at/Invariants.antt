use Rattle.std.proofs.Common.{◌≡◌, ◌<◌, drop, length, map, take}
use Rattle.std.specs.List.{AllByRecursion}
use Rattle.pdw_explore.specs.Grown.{leaf_at, new_number}
use Rattle.pdw_explore.proofs.leaves.leaves_at.Given as goal

abbrev pub invariant-loop-leaf : goal.invariant-loop-leaf
invariant-loop-leaf l = record {
  sides : l.sides ≡ map (leaf_at l.grown) (take l.leaf-index l.leaves);
  range : AllByRecursion (λ leaf. (leaf.0 < length l.grown.numbers) × ((new_number l.grown.numbers leaf).0 < length l.grown.groups)) (drop l.leaf-index l.leaves);
}
