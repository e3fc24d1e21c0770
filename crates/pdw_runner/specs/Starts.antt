-- The rows that a transfer starts from: those that a move takes, as positional rows in any order.
use Rattle.std.specs.Prelude.{ℕ, map}
use Rattle.pdw_base.specs.SameBag.{SameBag}
use Rattle.pdw_base.specs.Schema.{Columns, cell}
use Rattle.pdw_base.specs.declared.node.Node.{Node}
use Rattle.pdw_dms.specs.Moved.{IsThere}
use Rattle.pdw_dsql.specs.Follows.{Taken}
use Rattle.pdw_machine.specs.Machine.{Job}
use Rattle.pdw_move.specs.Placed.{rows_at}
use Rattle.pdw_move.specs.declared.placed.Placed.{Placed}
use Rattle.pdw_rules.specs.Stands.{PlacedRows}

-- at each node of an appliance with n compute nodes the rows, read by their columns, are these, in any order
abbrev pub ArePlaced : ℕ → Columns → Placed → PlacedRows → Type 0
ArePlaced n columns placed rows = (place : Node) → IsThere n place → SameBag (map (cell columns) (rows_at placed place)) (rows place)

-- the transfer of what a move takes
abbrev pub job_of : ℕ → Taken → Job
job_of n taken = record { mv = taken.move; columns = taken.schema; nodes = n }
