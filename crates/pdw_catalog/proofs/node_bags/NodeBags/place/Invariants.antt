use Rattle.pdw_catalog.specs.NodeBags.{Placed}
use Rattle.pdw_catalog.proofs.node_bags.NodeBags.place.Given as goal

abbrev pub invariant-loop-row : goal.invariant-loop-row
invariant-loop-row l = Placed l.nodes l.column l.initial.self-inside.bags.items l.self-inside.bags.items l.yielded
