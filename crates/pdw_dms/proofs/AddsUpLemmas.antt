-- After any list of events the rows add up to those that are meant for each target.
use Rattle.std.proofs.Common.{◌≡◌, ℕ, zero, suc, ◌<◌, ◌≤◌, nat_lt, Bool, true, false, List, [], ◌∷◌, ◌++◌, length, map, filter, set, take, get_or, refl, sym, ap, ◌∙◌, subst, arith, ltb-false}
use Rattle.std.proofs.lemmas.Bool.{ltb-true}
use Rattle.std.specs.List.{flat_map}
use Rattle.std.proofs.lemmas.List.{length-map, length-set, set_past}
use Rattle.pdw_base.specs.SameBag.{weigh}
use Rattle.pdw_base.proofs.SameBagLaws.{SameBag-≡}
use Rattle.pdw_base.specs.declared.node.Node.{Node}
use Rattle.pdw_move.specs.declared.kinds.Receivers.{Receivers}
use Rattle.pdw_move.specs.declared.placed.Placed.{Placed}
use Rattle.pdw_move.specs.Placed.{Row, all_nodes, rows_at}
use Rattle.pdw_machine.specs.declared.event.Event.{Event}
use Rattle.pdw_machine.specs.declared.event.Event.TheVariants.{Read, Flush, Deliver, Copy}
use Rattle.pdw_machine.specs.Events.{replay}
use Rattle.pdw_machine.specs.Machine.{IsShaped, Job, Source, State, Target, after_read, delivered, flushed, goes, lane_at, next_receivers, no_source, no_target, place, read_first, received, rows_in, source_at, start_lane, start_of, start_source, start_target, step, target_at, unread, with_lane, with_source}
use Rattle.pdw_machine.proofs.ShapeLemmas.{copy-shaped, deliver-shaped, flush-shaped, read-shaped}
use Rattle.pdw_machine.proofs.StartLemmas.{length-all_nodes, start-shaped}
use Rattle.pdw_dms.specs.Moved.{AddsUp, moved_in, on_the_way}
use Rattle.pdw_dms.specs.Transfer.{Held, IsSound, restarted, start_in}
use Rattle.pdw_dms.proofs.MovedLemmas.{step-weight}

-- ---- the rows that are meant for a target

flat_map-set_same : {X Y : Type 0} (f : X → List Y) (xs : List X) (i : ℕ) (x d : X) → f x ≡ f (get_or xs i d) → flat_map f (set xs i x) ≡ flat_map f xs
flat_map-set_same f [] i x d same = refl
flat_map-set_same f (y ∷ xs) zero x d same = ap (λ ys. ys ++ flat_map f xs) same
flat_map-set_same f (y ∷ xs) (suc i) x d same = ap (λ ys. f y ++ ys) (flat_map-set_same f xs i x d same)

module _ (job : Job) where
  abbrev meant : Node → Source → List Row
  meant to source = filter (goes job source.node to) source.rows

  meant-read_first : (to : Node) (n : ℕ) (next : Receivers) (source : Source) (rows : List Row) → meant to (read_first n next source rows) ≡ meant to source
  meant-read_first to n next source [] = refl
  meant-read_first to n next source (row ∷ rows) = refl

  -- no event changes them
  pub moved_in-step : (s : State) (event : Event) (to : Node) → moved_in job (step job event s) to ≡ moved_in job s to
  moved_in-step s (Read from) to =
      let source = source_at (place job.nodes from) s in
      flat_map-set_same (meant to) s.sources (place job.nodes from) (after_read job.nodes (next_receivers job source) source) no_source
      (meant-read_first to job.nodes (next_receivers job source) source (unread source))
  moved_in-step s (Flush from at) to =
      let source = source_at (place job.nodes from) s in
      flat_map-set_same (meant to) s.sources (place job.nodes from) (with_lane (place job.nodes at) (flushed (lane_at (place job.nodes at) source.lanes)) source) no_source refl
  moved_in-step s (Deliver from at) to =
      let source = source_at (place job.nodes from) s in
      flat_map-set_same (meant to) s.sources (place job.nodes from) (with_lane (place job.nodes at) (delivered (lane_at (place job.nodes at) source.lanes)) source) no_source refl
  moved_in-step s (Copy at) to = refl

  -- ---- the shape, after any event

  past-shaped : (s : State) (from : ℕ) (source : Source) → IsShaped job.nodes s → length s.sources ≤ from → IsShaped job.nodes (with_source from source s)
  past-shaped s from source shaped past = subst (λ sources. IsShaped job.nodes (record { sources = sources; targets = s.targets })) (sym (set_past s.sources from source past)) shaped

  any-shaped : (s : State) (event : Event) → IsShaped job.nodes s → IsShaped job.nodes (step job event s)
  any-shaped s (Read from) shaped = by (nat_lt job.nodes (place job.nodes from)) refl
    where
      by : (b : Bool) → nat_lt job.nodes (place job.nodes from) ≡ b → IsShaped job.nodes (step job (Read from) s)
      by true beyond =
          let outside : job.nodes < place job.nodes from = ltb-true _ _ beyond in
          let source = source_at (place job.nodes from) s in
          past-shaped s (place job.nodes from) (after_read job.nodes (next_receivers job source) source) shaped (omega (arith, shaped.sources))
      by false inside =
          read-shaped job.nodes s shaped (next_receivers job (source_at (place job.nodes from) s)) (place job.nodes from) (ltb-false _ _ inside)
  any-shaped s (Flush from at) shaped = by (nat_lt job.nodes (place job.nodes from)) refl
    where
      by : (b : Bool) → nat_lt job.nodes (place job.nodes from) ≡ b → IsShaped job.nodes (step job (Flush from at) s)
      by true beyond =
          let outside : job.nodes < place job.nodes from = ltb-true _ _ beyond in
          let source = source_at (place job.nodes from) s in
          past-shaped s (place job.nodes from) (with_lane (place job.nodes at) (flushed (lane_at (place job.nodes at) source.lanes)) source) shaped (omega (arith, shaped.sources))
      by false inside = flush-shaped job.nodes s shaped (place job.nodes from) (place job.nodes at) (ltb-false _ _ inside)
  any-shaped s (Deliver from at) shaped = by (nat_lt job.nodes (place job.nodes from)) refl
    where
      by : (b : Bool) → nat_lt job.nodes (place job.nodes from) ≡ b → IsShaped job.nodes (step job (Deliver from at) s)
      by true beyond =
          let outside : job.nodes < place job.nodes from = ltb-true _ _ beyond in
          let source = source_at (place job.nodes from) s in
          let lane = lane_at (place job.nodes at) source.lanes in
          let base = past-shaped s (place job.nodes from) (with_lane (place job.nodes at) (delivered lane) source) shaped (omega (arith, shaped.sources)) in
          record {
            sources = base.sources;
            targets = length-set s.targets (place job.nodes at) (received (take 1 lane.link) (target_at (place job.nodes at) s)) ∙ base.targets;
            lanes = base.lanes;
          }
      by false inside = deliver-shaped job.nodes s shaped (place job.nodes from) (place job.nodes at) (ltb-false _ _ inside)
  any-shaped s (Copy at) shaped = copy-shaped job.nodes s shaped (place job.nodes at)

  -- ---- any list of events

  pub adds_up-step : (s : State) (event : Event) → IsShaped job.nodes s → AddsUp job s → AddsUp job (step job event s)
  adds_up-step s event shaped sum to there = record {
    weighs = λ weight. step-weight weight job to s event shaped there ∙ (sum to there).weighs weight ∙ ap (weigh weight) (sym (moved_in-step s event to));
  }

  pub adds_up-replay : (events : List Event) (s : State) → IsShaped job.nodes s → AddsUp job s → AddsUp job (replay job events s)
  adds_up-replay [] s shaped sum = sum
  adds_up-replay (event ∷ events) s shaped sum = adds_up-replay events (step job event s) (any-shaped s event shaped) (adds_up-step s event shaped sum)

  pub moved_in-replay : (events : List Event) (s : State) (to : Node) → moved_in job (replay job events s) to ≡ moved_in job s to
  moved_in-replay [] s to = refl
  moved_in-replay (event ∷ events) s to = moved_in-replay events (step job event s) to ∙ moved_in-step s event to

  -- ---- the start

  pub no_filling : (from : Node) (nodes : List Node) (at : ℕ) → (lane_at at (map (start_lane from) nodes)).filling ≡ []
  no_filling from [] at = refl
  no_filling from (to ∷ nodes) zero = refl
  no_filling from (to ∷ nodes) (suc at) = no_filling from nodes at

  no_link : (from : Node) (nodes : List Node) (at : ℕ) → (lane_at at (map (start_lane from) nodes)).link ≡ []
  no_link from [] at = refl
  no_link from (to ∷ nodes) zero = refl
  no_link from (to ∷ nodes) (suc at) = no_link from nodes at

  start-way : (placed : Placed) (to from : Node) → on_the_way job to (start_source job.nodes placed from) ≡ meant to (start_source job.nodes placed from)
  start-way placed to from =
      (λ i. rows_in (no_link from (all_nodes job.nodes) (place job.nodes to) i)
      ++ (no_filling from (all_nodes job.nodes) (place job.nodes to) i ++ filter (goes job from to) (rows_at placed from)))

  start-ways : (placed : Placed) (to : Node) (nodes : List Node)
      → flat_map (on_the_way job to) (map (start_source job.nodes placed) nodes) ≡ flat_map (meant to) (map (start_source job.nodes placed) nodes)
  start-ways placed to [] = refl
  start-ways placed to (from ∷ nodes) = (λ i. start-way placed to from i ++ start-ways placed to nodes i)

  start-target_at : (nodes : List Node) (at : ℕ) → get_or (map start_target nodes) at no_target ≡ no_target
  start-target_at [] at = refl
  start-target_at (to ∷ nodes) zero = refl
  start-target_at (to ∷ nodes) (suc at) = start-target_at nodes at

  pub adds_up-start : (placed : Placed) → AddsUp job (start_of job.nodes placed)
  adds_up-start placed to there =
      let none = start-target_at (all_nodes job.nodes) (place job.nodes to) in
      SameBag-≡ (ap (λ (target : Target). target.written ++ (rows_in target.inbox ++ flat_map (on_the_way job to) (start_of job.nodes placed).sources)) none
      ∙ start-ways placed to (all_nodes job.nodes))

  pub adds_up-always : (placed : Placed) (events : List Event) → AddsUp job (replay job events (start_of job.nodes placed))
  adds_up-always placed events = adds_up-replay events (start_of job.nodes placed) (start-shaped job.nodes placed) (adds_up-start placed)

-- ---- a start that is read off a state

start_in-lanes : (job : Job) (sources : List Source) (at : ℕ) → at < length sources → length (get_or (map (restarted job) sources) at no_source).lanes ≡ suc job.nodes
start_in-lanes job [] at within = absurd (omega arith)
start_in-lanes job (source ∷ sources) zero within = length-map (all_nodes job.nodes) (start_lane source.node) ∙ length-all_nodes job.nodes
start_in-lanes job (source ∷ sources) (suc at) within = start_in-lanes job sources at (omega arith)

pub start_in-shaped : (job : Job) (s : State) → IsShaped job.nodes s → IsShaped job.nodes (start_in job s)
start_in-shaped job s shaped = record {
  sources = length-map s.sources (restarted job) ∙ shaped.sources;
  targets = length-map (all_nodes job.nodes) start_target ∙ length-all_nodes job.nodes;
  lanes = λ at inside. start_in-lanes job s.sources at (omega (arith, shaped.sources));
}

restarted-ways : (job : Job) (to : Node) (sources : List Source) → flat_map (on_the_way job to) (map (restarted job) sources) ≡ flat_map (meant job to) (map (restarted job) sources)
restarted-ways job to [] = refl
restarted-ways job to (source ∷ sources) =
    (λ i. (rows_in (no_link job source.node (all_nodes job.nodes) (place job.nodes to) i)
    ++ (no_filling job source.node (all_nodes job.nodes) (place job.nodes to) i ++ filter (goes job source.node to) source.rows))
    ++ restarted-ways job to sources i)

-- a sound transfer adds up
pub sound-adds_up : (held : Held) → IsSound held → AddsUp held.job held.state
sound-adds_up held sound =
    let job = held.job in
    let start = start_in job held.state in
    subst (AddsUp job) sound.replayed
    (adds_up-replay job held.events start (start_in-shaped job held.state sound.shaped)
    (λ to there.
    SameBag-≡ (ap (λ (target : Target). target.written ++ (rows_in target.inbox ++ flat_map (on_the_way job to) start.sources))
    (start-target_at job (all_nodes job.nodes) (place job.nodes to))
    ∙ restarted-ways job to held.state.sources)))
