use Rattle.std.proofs.Common.{◌≡◌, map, take}
use Rattle.pdw_base.specs.Schema.{cell}
use Rattle.pdw_move.specs.Move.{receivers}
use Rattle.pdw_machine.proofs.sent.routes_of.Given as goal

abbrev pub invariant-loop-row : goal.invariant-loop-row
invariant-loop-row l = l.routes.items ≡ map (λ row. receivers l.job.nodes l.job.mv l.source (cell l.job.columns row)) (take l.row-index l.rows)
