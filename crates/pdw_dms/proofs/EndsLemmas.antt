-- The numbers of events of a transfer that is done.
use Rattle.std.proofs.Common.{◌≡◌, ℕ, suc, ◌+◌, ◌*◌, ◌<◌, ◌≤◌, List, [], ◌∷◌, length, map, filter, get_or, refl, ap, ◌∙◌, subst, arith}
use Rattle.std.specs.List.{count_by}
use Rattle.std.proofs.lemmas.List.{get_or-map}
use Rattle.pdw_base.specs.SameBag.{weigh}
use Rattle.pdw_base.specs.declared.node.Node.{Node}
use Rattle.pdw_move.specs.declared.kinds.Receivers.{Receivers}
use Rattle.pdw_move.specs.Placed.{Row, all_nodes}
use Rattle.pdw_machine.specs.declared.event.Event.{Event}
use Rattle.pdw_machine.specs.declared.event.Event.TheVariants.{Read, Flush, Deliver, Copy}
use Rattle.pdw_machine.specs.Events.{enabled_events, replay}
use Rattle.pdw_machine.specs.Machine.{IsShaped, Job, Lane, Source, State, Target, after_read, delivered, flushed, goes, lane_at, next_receivers, no_lane, no_source, no_target, place, read_first, source_at, start_lane, start_target, step, unread, with_lane}
use Rattle.pdw_dms.specs.Ends.{EndsWith, is_flush, is_flush_between, row_count, rows_between}
use Rattle.pdw_dms.specs.Moved.{IsThere}
use Rattle.pdw_dms.specs.Transfer.{Held, IsSound, restarted, start_in}
use Rattle.pdw_dms.proofs.AddsUpLemmas.{no_filling, start_in-shaped}
use Rattle.pdw_dms.proofs.CountLemmas.{inboxes_count, link_count, links_count, run-counts, unread_count}
use Rattle.pdw_dms.proofs.EndLemmas.{filling-nil, inbox-nil, link-nil, unread-nil}
use Rattle.pdw_dms.proofs.MovedLemmas.{there-inside, value-set, weigh-set_same}
use Rattle.pdw_dms.proofs.SumLemmas.{run-pairs}
use Rattle.pdw_dms.proofs.PairLemmas.{owed, owed_by, run-pays}

module _ {X : Type 0} where
  zero-weigh : (f : X → ℕ) (xs : List X) (d : X) → ((k : ℕ) → k < length xs → f (get_or xs k d) ≡ 0) → weigh f xs ≡ 0
  zero-weigh f [] d none = refl
  zero-weigh f (x ∷ xs) d none =
      let first = none 0 (omega arith) in
      let rest = zero-weigh f xs d (λ k less. none (suc k) (omega arith)) in
      omega arith

  weigh-over : {Y : Type 0} (f : X → ℕ) (g : Y → X) (h : Y → ℕ) → ((y : Y) → f (g y) ≡ h y) → (ys : List Y) → weigh f (map g ys) ≡ weigh h ys
  weigh-over f g h same [] = refl
  weigh-over f g h same (y ∷ ys) = (λ i. same y i + weigh-over f g h same ys i)

  weigh-none : (xs : List X) → weigh (λ x. 0) xs ≡ 0
  weigh-none [] = refl
  weigh-none (x ∷ xs) = let rest = weigh-none xs in omega arith

-- ---- what no event changes of a source

module _ (job : Job) (g : Node → List Row → ℕ) where
  abbrev own : Source → ℕ
  own source = g source.node source.rows

  own-read_first : (n : ℕ) (next : Receivers) (source : Source) (rows : List Row) → own (read_first n next source rows) ≡ own source
  own-read_first n next source [] = refl
  own-read_first n next source (row ∷ rows) = refl

  own-at-step : (s : State) (event : Event) (p : ℕ) → own (source_at p (step job event s)) ≡ own (source_at p s)
  own-at-step s (Read a) p =
      let source = source_at (place job.nodes a) s in
      value-set own s.sources (place job.nodes a) p (after_read job.nodes (next_receivers job source) source) no_source (own-read_first job.nodes (next_receivers job source) source (unread source))
  own-at-step s (Flush a b) p =
      let source = source_at (place job.nodes a) s in
      value-set own s.sources (place job.nodes a) p (with_lane (place job.nodes b) (flushed (lane_at (place job.nodes b) source.lanes)) source) no_source refl
  own-at-step s (Deliver a b) p =
      let source = source_at (place job.nodes a) s in
      value-set own s.sources (place job.nodes a) p (with_lane (place job.nodes b) (delivered (lane_at (place job.nodes b) source.lanes)) source) no_source refl
  own-at-step s (Copy b) p = refl

  own-all-step : (s : State) (event : Event) → weigh own (step job event s).sources ≡ weigh own s.sources
  own-all-step s (Read a) =
      let source = source_at (place job.nodes a) s in
      weigh-set_same own s.sources (place job.nodes a) (after_read job.nodes (next_receivers job source) source) no_source (own-read_first job.nodes (next_receivers job source) source (unread source))
  own-all-step s (Flush a b) =
      let source = source_at (place job.nodes a) s in
      weigh-set_same own s.sources (place job.nodes a) (with_lane (place job.nodes b) (flushed (lane_at (place job.nodes b) source.lanes)) source) no_source refl
  own-all-step s (Deliver a b) =
      let source = source_at (place job.nodes a) s in
      weigh-set_same own s.sources (place job.nodes a) (with_lane (place job.nodes b) (delivered (lane_at (place job.nodes b) source.lanes)) source) no_source refl
  own-all-step s (Copy b) = refl

  own-at-replay : (events : List Event) (s : State) (p : ℕ) → own (source_at p (replay job events s)) ≡ own (source_at p s)
  own-at-replay [] s p = refl
  own-at-replay (event ∷ events) s p = own-at-replay events (step job event s) p ∙ own-at-step s event p

  own-all-replay : (events : List Event) (s : State) → weigh own (replay job events s).sources ≡ weigh own s.sources
  own-all-replay [] s = refl
  own-all-replay (event ∷ events) s = own-all-replay events (step job event s) ∙ own-all-step s event

pub row_count-replay : (job : Job) (events : List Event) (s : State) → row_count (replay job events s) ≡ row_count s
row_count-replay job events s = own-all-replay job (λ source rows. length rows) events s

pub rows_between-replay : (job : Job) (events : List Event) (s : State) (from to : Node) → rows_between job (replay job events s) from to ≡ rows_between job s from to
rows_between-replay job events s from to = own-at-replay job (λ source rows. length (filter (goes job source to) rows)) events s (place job.nodes from)

-- ---- from the start to the end

module _ (held : Held) (sound : IsSound held) (none : enabled_events held.job held.state ≡ []) where
  abbrev job : Job
  job = held.job

  abbrev s : State
  s = held.state

  abbrev start : State
  start = start_in held.job held.state

  started : IsShaped job.nodes start
  started = start_in-shaped job s sound.shaped

  all-read : unread_count s ≡ 0
  all-read = zero-weigh (λ (x : Source). length (unread x)) s.sources no_source (λ p less. ap length (unread-nil job s sound.shaped none p (omega (arith, sound.shaped.sources))))

  links-empty : links_count s ≡ 0
  links-empty =
      zero-weigh link_count s.sources no_source
      (λ p less.
      let inside : p ≤ job.nodes = omega (arith, sound.shaped.sources) in
      let wide = sound.shaped.lanes p inside in
      zero-weigh (λ (x : Lane). length x.link) (source_at p s).lanes no_lane (λ q fewer. ap length (link-nil job s sound.shaped none p q inside (omega arith))))

  inboxes-empty : inboxes_count s ≡ 0
  inboxes-empty = zero-weigh (λ (x : Target). length x.inbox) s.targets no_target (λ q less. ap length (inbox-nil job s sound.shaped none q (omega (arith, sound.shaped.targets))))

  unread-start : unread_count start ≡ row_count s
  unread-start = weigh-over (λ (x : Source). length (unread x)) (restarted job) (λ (x : Source). length x.rows) (λ x. refl) s.sources

  links-start : links_count start ≡ 0
  links-start =
      weigh-over link_count (restarted job) (λ (x : Source). 0)
      (λ x. weigh-over (λ (l : Lane). length l.link) (start_lane x.node) (λ (to : Node). 0) (λ to. refl) (all_nodes job.nodes) ∙ weigh-none (all_nodes job.nodes)) s.sources
      ∙ weigh-none s.sources

  inboxes-start : inboxes_count start ≡ 0
  inboxes-start = weigh-over (λ (x : Target). length x.inbox) start_target (λ (to : Node). 0) (λ to. refl) (all_nodes job.nodes) ∙ weigh-none (all_nodes job.nodes)

  module _ (from to : Node) (there : IsThere job.nodes from) (there_to : IsThere job.nodes to) where
    start-source : source_at (place job.nodes from) start ≡ restarted job (source_at (place job.nodes from) s)
    start-source =
        let inside = there-inside job.nodes from there in
        get_or-map (restarted job) s.sources (place job.nodes from) no_source no_source (omega (arith, sound.shaped.sources))

    owed-start : owed job to there_to from there start ≡ rows_between job s from to
    owed-start =
        let source = source_at (place job.nodes from) s in
        ap (owed_by job to there_to) start-source
        ∙ ap (λ (rows : List Row). length rows + length (filter (goes job source.node to) source.rows)) (no_filling job source.node (all_nodes job.nodes) (place job.nodes to))
        ∙ omega arith

    owed-end : owed job to there_to from there s ≡ 0
    owed-end =
        let inside = there-inside job.nodes from there in
        let inside_to = there-inside job.nodes to there_to in
        let source = source_at (place job.nodes from) s in
        (λ i. length (filling-nil job s sound.shaped none (place job.nodes from) (place job.nodes to) inside inside_to i)
        + length (filter (goes job source.node to) (unread-nil job s sound.shaped none (place job.nodes from) inside i)))

    fits-start : length (lane_at (place job.nodes to) (source_at (place job.nodes from) start).lanes).filling ≤ 64
    fits-start =
        let source = source_at (place job.nodes from) s in
        let nothing = ap (λ (x : Source). length (lane_at (place job.nodes to) x.lanes).filling) start-source
        ∙ ap (λ (rows : List Row). length rows) (no_filling job source.node (all_nodes job.nodes) (place job.nodes to)) in
        omega arith

    pair : (rows_between job s from to ≤ 64 * count_by (is_flush_between from to) held.events) × (count_by (is_flush_between from to) held.events ≤ rows_between job s from to)
    pair =
        let paid = run-pays job to there_to from there held.events start started fits-start sound.run in
        let end = ap (owed job to there_to from there) sound.replayed ∙ owed-end in
        let begin = owed-start in
        (omega (arith, paid.most), omega (arith, paid.some))

  pub ends-with : EndsWith held.job held.state held.events
  ends-with =
      let counts = run-counts job held.events start started sound.run in
      let unread_end = ap unread_count sound.replayed ∙ all-read in
      let links_end = ap links_count sound.replayed ∙ links-empty in
      let inboxes_end = ap inboxes_count sound.replayed ∙ inboxes-empty in
      let unread_begin = unread-start in
      let links_begin = links-start in
      let inboxes_begin = inboxes-start in
      record {
        reads = omega (arith, counts.unread);
        delivers = omega (arith, counts.links);
        copies = omega (arith, counts.links, counts.inboxes);
        all = omega (arith, counts.unread, counts.links, counts.inboxes, counts.all);
        fill = λ from to there there_to. (pair from to there there_to).0;
        some = λ from to there there_to. (pair from to there there_to).1;
        pairs = run-pairs job held.events start started sound.run;
      }

-- the same numbers, in the words of a state from which these events led on
pub ends-before : (job : Job) (added : List Event) (s : State) (events : List Event) → EndsWith job (replay job added s) events → EndsWith job s events
ends-before job added s events ends = record {
  reads = ends.reads ∙ row_count-replay job added s;
  delivers = ends.delivers;
  copies = ends.copies;
  all = ends.all ∙ ap (λ m. m + 3 * count_by is_flush events) (row_count-replay job added s);
  fill = λ from to there there_to. subst (λ m. m ≤ 64 * count_by (is_flush_between from to) events) (rows_between-replay job added s from to) (ends.fill from to there there_to);
  some = λ from to there there_to. subst (λ m. count_by (is_flush_between from to) events ≤ m) (rows_between-replay job added s from to) (ends.some from to there there_to);
  pairs = ends.pairs;
}
