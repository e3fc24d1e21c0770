-- A transfer stays sound: its events are a run from its start that gives its state.
use Rattle.std.proofs.Common.{◌≡◌, ℕ, zero, suc, Bool, true, false, cond, List, [], ◌∷◌, ◌++◌, map, filter, Some, refl, sym, ap, ◌∙◌, subst}
use Rattle.std.specs.List.{slice_get}
use Rattle.std.proofs.Math.Seq.{map-set_same}
use Rattle.pdw_move.specs.declared.kinds.Receivers.{Receivers}
use Rattle.pdw_move.specs.declared.placed.Placed.{Placed}
use Rattle.pdw_move.specs.Placed.{Row, all_nodes}
use Rattle.pdw_machine.specs.declared.event.Event.{Event}
use Rattle.pdw_machine.specs.declared.event.Event.TheVariants.{Read, Flush, Deliver, Copy}
use Rattle.pdw_machine.specs.Events.{IsRun, all_events, enabled_events, replay}
use Rattle.pdw_machine.specs.Machine.{IsShaped, Job, Source, State, after_read, delivered, flushed, is_enabled, lane_at, next_receivers, no_source, place, read_first, source_at, start_of, start_source, start_target, step, unread, with_lane}
use Rattle.pdw_machine.proofs.ShapeLemmas.{copy-shaped, deliver-shaped, deliver_inside, flush-shaped, flush_inside, read-shaped, read_inside}
use Rattle.pdw_machine.proofs.StartLemmas.{map-map, start-shaped}
use Rattle.pdw_dms.specs.Transfer.{Held, IsSound, applied, restarted, start_in}

-- ---- numbers of events

passes : {X : Type 0} (test : X → Bool) (xs : List X) (k : ℕ) (x : X) → slice_get (filter test xs) k ≡ Some x → test x ≡ true
passes test [] k x there = cc
passes test (y ∷ xs) k x there = by (test y) refl k there (λ m. passes test xs m x)
  where
    by : (b : Bool) → test y ≡ b → (m : ℕ) → slice_get (cond b (y ∷ filter test xs) (filter test xs)) m ≡ Some x
        → ((j : ℕ) → slice_get (filter test xs) j ≡ Some x → test x ≡ true) → test x ≡ true
    by true own zero here rest = let same : y ≡ x = cc in subst (λ z. test z ≡ true) same own
    by true own (suc m) here rest = rest m here
    by false own m here rest = rest m here

-- an event that has a number among the enabled ones is enabled
pub numbered_is_enabled : (job : Job) (s : State) (k : ℕ) (event : Event) → slice_get (enabled_events job s) k ≡ Some event → is_enabled job s event ≡ true
numbered_is_enabled job s k event there = passes (is_enabled job s) (all_events job.nodes) k event there

-- ---- one event more

pub step-shaped : (job : Job) (s : State) (event : Event) → IsShaped job.nodes s → is_enabled job s event ≡ true → IsShaped job.nodes (step job event s)
step-shaped job s (Read from) shaped enabled =
    let at = place job.nodes from in
    let next = next_receivers job (source_at at s) in
    read-shaped job.nodes s shaped next at (read_inside job.nodes s shaped next at enabled)
step-shaped job s (Flush from to) shaped enabled =
    let inside = flush_inside job.nodes s shaped (place job.nodes from) (place job.nodes to) enabled in
    flush-shaped job.nodes s shaped (place job.nodes from) (place job.nodes to) inside.0
step-shaped job s (Deliver from to) shaped enabled =
    let inside = deliver_inside job.nodes s shaped (place job.nodes from) (place job.nodes to) enabled in
    deliver-shaped job.nodes s shaped (place job.nodes from) (place job.nodes to) inside.0
step-shaped job s (Copy to) shaped enabled = copy-shaped job.nodes s shaped (place job.nodes to)

restarted-read_first : (job : Job) (n : ℕ) (next : Receivers) (source : Source) (rows : List Row) → restarted job (read_first n next source rows) ≡ restarted job source
restarted-read_first job n next source [] = refl
restarted-read_first job n next source (row ∷ rows) = refl

-- no event changes the start
pub start_in-step : (job : Job) (s : State) (event : Event) → start_in job (step job event s) ≡ start_in job s
start_in-step job s (Read from) =
    let at = place job.nodes from in
    let source = source_at at s in
    ap (λ (sources : List Source). record { sources = sources; targets = map start_target (all_nodes job.nodes) })
    (map-set_same (restarted job) s.sources at (after_read job.nodes (next_receivers job source) source) no_source
    (restarted-read_first job job.nodes (next_receivers job source) source (unread source)))
start_in-step job s (Flush from to) =
    let source = source_at (place job.nodes from) s in
    ap (λ (sources : List Source). record { sources = sources; targets = map start_target (all_nodes job.nodes) })
    (map-set_same (restarted job) s.sources (place job.nodes from) (with_lane (place job.nodes to) (flushed (lane_at (place job.nodes to) source.lanes)) source) no_source refl)
start_in-step job s (Deliver from to) =
    let source = source_at (place job.nodes from) s in
    ap (λ (sources : List Source). record { sources = sources; targets = map start_target (all_nodes job.nodes) })
    (map-set_same (restarted job) s.sources (place job.nodes from) (with_lane (place job.nodes to) (delivered (lane_at (place job.nodes to) source.lanes)) source) no_source refl)
start_in-step job s (Copy to) = refl

pub replay-append : (job : Job) (events : List Event) (event : Event) (s : State) → replay job (events ++ event ∷ []) s ≡ step job event (replay job events s)
replay-append job [] event s = refl
replay-append job (first ∷ events) event s = replay-append job events event (step job first s)

pub run-append : (job : Job) (events : List Event) (event : Event) (s : State) → IsRun job s events → is_enabled job (replay job events s) event ≡ true → IsRun job s (events ++ event ∷ [])
run-append job [] event s run enabled = (enabled, _)
run-append job (first ∷ events) event s run enabled = (run.0, run-append job events event (step job first s) run.1 enabled)

pub sound-applied : (held : Held) (event : Event) → IsSound held → is_enabled held.job held.state event ≡ true → IsSound (applied event held)
sound-applied held event sound enabled =
    let job = held.job in
    let same = sym (start_in-step job held.state event) in
    record {
      shaped = step-shaped job held.state event sound.shaped enabled;
      run = subst (λ start. IsRun job start (held.events ++ event ∷ [])) same
          (run-append job held.events event (start_in job held.state) sound.run (subst (λ s. is_enabled job s event ≡ true) (sym sound.replayed) enabled));
      replayed = subst (λ start. replay job (held.events ++ event ∷ []) start ≡ step job event held.state) same
          (replay-append job held.events event (start_in job held.state) ∙ ap (step job event) sound.replayed);
    }

-- a fresh transfer is its own start
pub sound-start : (job : Job) (placed : Placed) → IsSound (record { job = job; state = start_of job.nodes placed; events = [] })
sound-start job placed = record {
  shaped = start-shaped job.nodes placed;
  run = _;
  replayed = ap (λ (sources : List Source). record { sources = sources; targets = map start_target (all_nodes job.nodes) })
      (map-map (restarted job) (start_source job.nodes placed) (all_nodes job.nodes));
}
