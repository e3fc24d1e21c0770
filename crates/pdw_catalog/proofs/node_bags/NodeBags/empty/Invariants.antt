use Rattle.std.proofs.Common.{◌≡◌, [], replicate}
use Rattle.pdw_catalog.proofs.node_bags.NodeBags.empty.Given as goal

abbrev pub invariant-loop-node : goal.invariant-loop-node
invariant-loop-node l = l.bags.items ≡ replicate l._node []
