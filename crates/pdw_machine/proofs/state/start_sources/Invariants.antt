use Rattle.std.proofs.Common.{◌≡◌, map, drop}
use Rattle.pdw_move.specs.Placed.{compute_nodes}
use Rattle.pdw_machine.specs.Machine.{start_source}
use Rattle.pdw_machine.proofs.state.start_sources.Given as goal

abbrev pub invariant-loop-number : goal.invariant-loop-number
invariant-loop-number l =
    (l.sources.items ≡ map (start_source l.nodes l.fn.placed) (compute_nodes l.number)) × (l.placed.nodes ≡ drop l.number l.fn.placed.nodes) × (l.placed.control ≡ l.fn.placed.control)
