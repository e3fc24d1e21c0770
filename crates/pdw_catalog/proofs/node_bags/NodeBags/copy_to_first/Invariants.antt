use Rattle.pdw_catalog.specs.NodeBags.{CopiedToFirst}
use Rattle.pdw_catalog.proofs.node_bags.NodeBags.copy_to_first.Given as goal

abbrev pub invariant-loop-node : goal.invariant-loop-node
invariant-loop-node l = CopiedToFirst l.node l.initial.self-inside.bags.items l.self-inside.bags.items l.rows
