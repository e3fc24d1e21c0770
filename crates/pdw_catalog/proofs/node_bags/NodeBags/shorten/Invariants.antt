use Rattle.std.proofs.Common.{◌≡◌, ℕ, ◌<◌, ◌≤◌, length, take, get_or}
use Rattle.pdw_catalog.specs.Appliance.{at_node}
use Rattle.pdw_catalog.proofs.node_bags.NodeBags.shorten.Given as goal

-- the nodes before this one are shortened, and the others as they were
abbrev pub invariant-loop-node : goal.invariant-loop-node
invariant-loop-node l =
    (length l.self-inside.bags.items ≡ length l.initial.self-inside.bags.items)
    × ((k : ℕ) → k < l.node → at_node k l.self-inside.bags.items ≡ take (get_or l.lengths k 0) (at_node k l.initial.self-inside.bags.items))
    × ((k : ℕ) → l.node ≤ k → at_node k l.self-inside.bags.items ≡ at_node k l.initial.self-inside.bags.items)
