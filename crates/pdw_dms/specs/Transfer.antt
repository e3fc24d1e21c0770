-- What contracts see of a transfer: its job, its state, and the events that were applied since its start.
use Rattle.std.specs.Prelude.{◌≡◌, List, [], ◌∷◌, ◌++◌, map}
use Rattle.pdw_move.specs.Placed.{all_nodes}
use Rattle.pdw_machine.specs.declared.event.Event.{Event}
use Rattle.pdw_machine.specs.Events.{IsRun, replay}
use Rattle.pdw_machine.specs.Machine.{IsShaped, Job, Source, State, start_lane, start_target, step}

pub record Held : Type 0 where
  pub job : Job
  pub state : State
  pub events : List Event

-- a source of which nothing was read, and from which nothing is on its way
abbrev pub restarted : Job → Source → Source
restarted job source = record { node = source.node; rows = source.rows; count = 0; lanes = map (start_lane source.node) (all_nodes job.nodes) }

-- the start, which the sources keep in place
abbrev pub start_in : Job → State → State
start_in job s = record { sources = map (restarted job) s.sources; targets = map start_target (all_nodes job.nodes) }

-- the events are a run from the start, and replaying them gives the state
pub record IsSound (held : Held) : Type 0 where
  pub shaped : IsShaped held.job.nodes held.state
  pub run : IsRun held.job (start_in held.job held.state) held.events
  pub replayed : replay held.job held.events (start_in held.job held.state) ≡ held.state

-- after one event more
abbrev pub applied : Event → Held → Held
applied event held = record { job = held.job; state = step held.job event held.state; events = held.events ++ event ∷ [] }
