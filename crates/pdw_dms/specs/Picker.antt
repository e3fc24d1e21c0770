-- Who picks the events: the calls that it was asked, and which events they stand for.
use Rattle.std.specs.Prelude.{◌≡◌, ⊤, ◌%◌, List, [], ◌∷◌, ◌++◌, length, slice_get, Option, Some, None}
use Rattle.pdw_machine.specs.declared.event.Event.{Event}
use Rattle.pdw_machine.specs.Events.{enabled_events}
use Rattle.pdw_machine.specs.Machine.{Job, State, step}
use Rattle.pdw_dms.specs.declared.picker.PickCall.{PickCall}
use Rattle.pdw_dms.specs.declared.picker.PickCall.TheVariants.{Start, Pick}

-- calls that are told after a call were told before it, and this one was added; once they are not told, they never are
abbrev pub AddsCall : Option (List PickCall) → Option (List PickCall) → PickCall → Type 0
AddsCall before None call = ⊤
AddsCall None (Some now) call = ⊥
AddsCall (Some before) (Some now) call = now ≡ before ++ call ∷ []

-- calls that are told are those told before and some of which this holds
abbrev pub Tells : Option (List PickCall) → Option (List PickCall) → (List PickCall → Type 0) → Type 0
Tells before None holds = ⊤
Tells None (Some now) holds = ⊥
Tells (Some before) (Some now) holds = (calls : List PickCall) × (now ≡ before ++ calls) × holds calls

-- the call is asked with the number of enabled events, and the event is the enabled one whose number is the answer modulo it
abbrev pub IsPick : Job → State → Event → PickCall → Type 0
IsPick job s event (Start k) = ⊥
IsPick job s event (Pick count answer) =
    (count ≡ length (enabled_events job s)) × (slice_get (enabled_events job s) (answer % length (enabled_events job s)) ≡ Some event)

-- one call for each event, in order
abbrev pub IsAsking : Job → State → List Event → List PickCall → Type 0
IsAsking job s [] [] = ⊤
IsAsking job s [] (call ∷ calls) = ⊥
IsAsking job s (event ∷ events) [] = ⊥
IsAsking job s (event ∷ events) (call ∷ calls) = IsPick job s event call × IsAsking job (step job event s) events calls
