use Rattle.std.proofs.Common.{◌≡◌, length, map, take}
use Rattle.pdw_catalog.proofs.node_bags.NodeBags.lengths.Given as goal

abbrev pub invariant-loop-bag : goal.invariant-loop-bag
invariant-loop-bag l = l.lengths.items ≡ map (λ bag. length bag) (take l.bag-index l.bag-items)
