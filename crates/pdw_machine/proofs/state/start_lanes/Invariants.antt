use Rattle.std.proofs.Common.{◌≡◌, map}
use Rattle.pdw_move.specs.Placed.{compute_nodes}
use Rattle.pdw_machine.specs.Machine.{start_lane}
use Rattle.pdw_machine.proofs.state.start_lanes.Given as goal

abbrev pub invariant-loop-number : goal.invariant-loop-number
invariant-loop-number l = l.lanes.items ≡ map (start_lane l.from) (compute_nodes l.number)
