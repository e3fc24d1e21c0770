-- What one step did: a transfer, from a start that has the rows that it takes to its end.
use Rattle.std.specs.Prelude.{◌≡◌, ℕ, List, [], length, Option}
use Rattle.pdw_base.specs.SameBag.{SameBag}
use Rattle.pdw_base.specs.Schema.{cell}
use Rattle.pdw_base.specs.declared.node.Node.{Node}
use Rattle.pdw_dms.specs.Ends.{EndsWith}
use Rattle.pdw_dms.specs.Moved.{IsThere}
use Rattle.pdw_dms.specs.Picker.{IsAsking, Tells}
use Rattle.pdw_dms.specs.declared.picker.PickCall.{PickCall}
use Rattle.pdw_dsql.specs.Follows.{Taken}
use Rattle.pdw_machine.specs.Events.{IsRun, enabled_events, replay}
use Rattle.pdw_machine.specs.Machine.{sent_in, start_of}
use Rattle.pdw_machine.specs.declared.event.Event.{Event}
use Rattle.pdw_move.specs.Placed.{moved, rows_at}
use Rattle.pdw_move.specs.declared.placed.Placed.{Placed}
use Rattle.pdw_runner.specs.Starts.{ArePlaced, job_of}
use Rattle.pdw_runner.specs.declared.steps.Arrived.{Arrived}

pub record Brings (n : ℕ) (taken : Taken) (arrived : Arrived) (before after : Option (List PickCall)) : Type 0 where
  pub start : Placed
  pub stands : ArePlaced n taken.schema start taken.rows
  pub events : List Event
  pub run : IsRun (job_of n taken) (start_of n start) events
  pub finished : enabled_events (job_of n taken) (replay (job_of n taken) events (start_of n start)) ≡ []
  pub ends : EndsWith (job_of n taken) (start_of n start) events
  pub rows : (place : Node) → IsThere n place → SameBag (rows_at arrived.rows place) (moved n taken.move (cell taken.schema) (rows_at start) place)
  pub move : arrived.count.mv ≡ taken.move
  pub sent : arrived.count.sent ≡ sent_in (job_of n taken) (start_of n start)
  pub count : arrived.count.events ≡ length events
  pub asked : Tells before after (λ calls. IsAsking (job_of n taken) (start_of n start) events calls)
