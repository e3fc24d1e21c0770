use Rattle.std.proofs.Common.{◌≡◌, take}
use Rattle.std.specs.List.{flat_map}
use Rattle.pdw_catalog.proofs.node_bags.NodeBags.all.Given as goal

abbrev pub invariant-loop-bag : goal.invariant-loop-bag
invariant-loop-bag l = l.all ≡ flat_map (λ bag. bag) (take l.bag-index l.bag-items)
