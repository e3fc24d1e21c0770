use Rattle.std.proofs.Common.{◌≡◌, length, take}
use Rattle.std.specs.List.{flat_map}
use Rattle.pdw_catalog.proofs.node_bags.NodeBags.all_count.Given as goal

abbrev pub invariant-loop-bag : goal.invariant-loop-bag
invariant-loop-bag l = l.count ≡ length (flat_map (λ bag. bag) (take l.bag-index l.bag-items))
