use Rattle.std.proofs.Common.{◌≡◌, map}
use Rattle.pdw_move.specs.Placed.{compute_nodes}
use Rattle.pdw_machine.specs.Machine.{start_target}
use Rattle.pdw_machine.proofs.state.start_targets.Given as goal

abbrev pub invariant-loop-node : goal.invariant-loop-node
invariant-loop-node l = l.targets.items ≡ map start_target (compute_nodes l._node)
