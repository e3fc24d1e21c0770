-- What a picker is asked for the moves of a plan: an asking of a finished transfer for each, one after the other.
use Rattle.std.specs.Prelude.{◌≡◌, ℕ, List, [], ◌∷◌, ◌++◌, length}
use Rattle.pdw_answer.specs.declared.answer.StepCount.{StepCount}
use Rattle.pdw_dms.specs.Picker.{IsAsking}
use Rattle.pdw_dms.specs.declared.picker.PickCall.{PickCall}
use Rattle.pdw_dsql.specs.Follows.{Taken}
use Rattle.pdw_machine.specs.Events.{IsRun, enabled_events, replay}
use Rattle.pdw_machine.specs.Machine.{start_of}
use Rattle.pdw_machine.specs.declared.event.Event.{Event}
use Rattle.pdw_move.specs.declared.placed.Placed.{Placed}
use Rattle.pdw_runner.specs.Starts.{ArePlaced, job_of}

-- calls for what a move takes: its rows start unread at the nodes, in some order, events run until none is enabled, and each
-- event was asked for
pub record AsksFor (n : ℕ) (taken : Taken) (calls : List PickCall) : Type 0 where
  pub start : Placed
  pub stands : ArePlaced n taken.schema start taken.rows
  pub events : List Event
  pub run : IsRun (job_of n taken) (start_of n start) events
  pub finished : enabled_events (job_of n taken) (replay (job_of n taken) events (start_of n start)) ≡ []
  pub asked : IsAsking (job_of n taken) (start_of n start) events calls

-- calls for each move, in order, and no other call
abbrev pub AsksAll : ℕ → List Taken → List PickCall → Type 0
AsksAll n [] calls = calls ≡ []
AsksAll n (taken ∷ rest) calls = (first : List PickCall) × (later : List PickCall) × (calls ≡ first ++ later) × AsksFor n taken first × AsksAll n rest later

-- and for each move as many as its count has events, so that what is counted is what was asked for
abbrev pub AsksEach : ℕ → List Taken → List StepCount → List PickCall → Type 0
AsksEach n [] [] calls = calls ≡ []
AsksEach n [] (count ∷ counts) calls = ⊥
AsksEach n (taken ∷ rest) [] calls = ⊥
AsksEach n (taken ∷ rest) (count ∷ counts) calls =
    (first : List PickCall) × (later : List PickCall) × (calls ≡ first ++ later) × AsksFor n taken first × (length first ≡ count.events) × AsksEach n rest counts later
