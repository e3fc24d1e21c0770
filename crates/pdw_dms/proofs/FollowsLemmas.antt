-- One event more, picked and applied.
use Rattle.std.proofs.Common.{◌≡◌, true, List, [], ◌∷◌, ◌++◌, Option, Some, None, refl, sym, ap, ◌∙◌, subst, append_assoc}
use Rattle.std.proofs.lemmas.List.{append-nil}
use Rattle.pdw_machine.specs.declared.event.Event.{Event}
use Rattle.pdw_machine.specs.Events.{replay}
use Rattle.pdw_machine.specs.Machine.{Job, State, is_enabled, step}
use Rattle.pdw_dms.specs.declared.picker.PickCall.{PickCall}
use Rattle.pdw_dms.specs.Finished.{Follows}
use Rattle.pdw_dms.specs.Picker.{AddsCall, IsAsking, IsPick, Tells}
use Rattle.pdw_dms.specs.Transfer.{Held, applied}
use Rattle.pdw_dms.proofs.TransferLemmas.{replay-append, run-append}

asking-append : (job : Job) (events : List Event) (calls : List PickCall) (event : Event) (call : PickCall) (s : State)
    → IsAsking job s events calls → IsPick job (replay job events s) event call → IsAsking job s (events ++ event ∷ []) (calls ++ call ∷ [])
asking-append job [] [] event call s asked pick = (pick, _)
asking-append job [] (first ∷ calls) event call s asked pick = absurd asked
asking-append job (e ∷ events) [] event call s asked pick = absurd asked
asking-append job (e ∷ events) (first ∷ calls) event call s asked pick = (asked.0, asking-append job events calls event call (step job e s) asked.1 pick)

tells-none : (told : Option (List PickCall)) (holds : List PickCall → Type 0) → holds [] → Tells told told holds
tells-none None holds own = _
tells-none (Some calls) holds own = ([], sym (append-nil calls), own)

tells-more : (before mid after : Option (List PickCall)) (call : PickCall) (holds holds_more : List PickCall → Type 0) → Tells before mid holds → AddsCall mid after call
    → ((calls : List PickCall) → holds calls → holds_more (calls ++ call ∷ [])) → Tells before after holds_more
tells-more before mid None call holds holds_more told added more = _
tells-more before None (Some now) call holds holds_more told added more = absurd added
tells-more None (Some now) (Some later) call holds holds_more told added more = absurd told
tells-more (Some first) (Some now) (Some later) call holds holds_more told added more =
    (told.0 ++ call ∷ [], added ∙ ap (λ calls. calls ++ call ∷ []) told.1 ∙ append_assoc first told.0 (call ∷ []), more told.0 told.2)

pub follows-none : (held : Held) (told : Option (List PickCall)) → Follows held held told told
follows-none held told = record {
  added = [];
  job = refl;
  events = sym (append-nil held.events);
  run = _;
  state = refl;
  asked = tells-none told (λ calls. IsAsking held.job held.state [] calls) _;
}

pub follows-more : (old now : Held) (before mid after : Option (List PickCall)) (event : Event) (call : PickCall) → Follows old now before mid → AddsCall mid after call
    → is_enabled now.job now.state event ≡ true → IsPick now.job now.state event call → Follows old (applied event now) before after
follows-more old now before mid after event call follows called enabled pick =
    let enabled_here = subst (λ s. is_enabled old.job s event ≡ true) follows.state (subst (λ job. is_enabled job now.state event ≡ true) follows.job enabled) in
    let pick_here = subst (λ s. IsPick old.job s event call) follows.state (subst (λ job. IsPick job now.state event call) follows.job pick) in
    record {
      added = follows.added ++ event ∷ [];
      job = follows.job;
      events = ap (λ events. events ++ event ∷ []) follows.events ∙ append_assoc old.events follows.added (event ∷ []);
      run = run-append old.job follows.added event old.state follows.run enabled_here;
      state = (λ i. step (follows.job i) event (follows.state i)) ∙ sym (replay-append old.job follows.added event old.state);
      asked = tells-more before mid after call (λ calls. IsAsking old.job old.state follows.added calls) (λ calls. IsAsking old.job old.state (follows.added ++ event ∷ []) calls)
          follows.asked called (λ calls asked. asking-append old.job follows.added calls event call old.state asked pick_here);
    }
