-- How a transfer ends.
use Rattle.std.specs.Prelude.{◌≡◌, List, [], ◌++◌, Option}
use Rattle.pdw_machine.specs.declared.event.Event.{Event}
use Rattle.pdw_machine.specs.Events.{IsRun, enabled_events, replay}
use Rattle.pdw_dms.specs.declared.picker.PickCall.{PickCall}
use Rattle.pdw_dms.specs.Picker.{IsAsking, Tells}
use Rattle.pdw_dms.specs.Transfer.{Held}

-- events were added, each enabled in its turn, and the picker was asked for each of them
pub record Follows (old new : Held) (before after : Option (List PickCall)) : Type 0 where
  pub added : List Event
  pub job : new.job ≡ old.job
  pub events : new.events ≡ old.events ++ added
  pub run : IsRun old.job old.state added
  pub state : new.state ≡ replay old.job added old.state
  pub asked : Tells before after (λ calls. IsAsking old.job old.state added calls)

-- they end where no event is enabled
pub record Driven (held : Held) (events : List Event) (before after : Option (List PickCall)) : Type 0 where
  pub added : List Event
  pub all : events ≡ held.events ++ added
  pub run : IsRun held.job held.state added
  pub finished : enabled_events held.job (replay held.job added held.state) ≡ []
  pub asked : Tells before after (λ calls. IsAsking held.job held.state added calls)
