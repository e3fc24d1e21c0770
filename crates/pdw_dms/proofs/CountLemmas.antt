-- The numbers of events of a run, step by step.
use Rattle.std.proofs.Common.{◌≡◌, ℕ, zero, suc, ◌+◌, ◌<◌, Bool, true, false, cond, List, [], ◌∷◌, ◌++◌, length, map, take, drop, refl, ap, ◌∙◌, arith}
use Rattle.std.proofs.lemmas.Bool.{ltb-true}
use Rattle.std.specs.List.{count_by, fold}
use Rattle.std.proofs.lemmas.List.{length-append, length-drop, length-take-le}
use Rattle.pdw_base.specs.SameBag.{weigh}
use Rattle.pdw_move.specs.declared.kinds.Receivers.{Receivers}
use Rattle.pdw_move.specs.declared.kinds.Receivers.TheVariants.{Nobody, One, AllCompute}
use Rattle.pdw_move.specs.Placed.{Row}
use Rattle.pdw_machine.specs.declared.event.Event.{Event}
use Rattle.pdw_machine.specs.declared.event.Event.TheVariants.{Read, Flush, Deliver, Copy}
use Rattle.pdw_machine.specs.Events.{IsRun, replay}
use Rattle.pdw_machine.specs.Machine.{IsShaped, Job, Lane, Source, State, Target, after_read, copied, dealt, delivered, fed, flushed, is_enabled, lane_at, next_receivers, no_lane, no_source, no_target, place, read_first, received, source_at, step, target_at, unread, with_lane}
use Rattle.pdw_machine.proofs.ShapeLemmas.{both, copy_inside, deliver_inside, flush_inside, read_inside}
use Rattle.pdw_dms.specs.Ends.{is_copy, is_deliver, is_flush, is_read}
use Rattle.pdw_dms.proofs.MovedLemmas.{weigh-set_same}
use Rattle.pdw_dms.proofs.TransferLemmas.{step-shaped}
use Rattle.pdw_dms.proofs.WorkLemmas.{unread-less, weigh-swap}

abbrev pub one_if : Bool → ℕ
one_if true = 1
one_if false = 0

count-from : {X : Type 0} (test : X → Bool) (start : ℕ) (xs : List X) → fold (λ n x. n + cond (test x) 1 0) start xs ≡ start + count_by test xs
count-from test start [] = omega arith
count-from test start (x ∷ xs) =
    let first = count-from test (start + cond (test x) 1 0) xs in
    let own = count-from test (0 + cond (test x) 1 0) xs in
    omega arith

pub count_by-cons : {X : Type 0} (test : X → Bool) (x : X) (xs : List X) → count_by test (x ∷ xs) ≡ cond (test x) 1 0 + count_by test xs
count_by-cons test x xs = let own = count-from test (0 + cond (test x) 1 0) xs in omega arith

-- ---- reads

abbrev pub unread_count : State → ℕ
unread_count s = weigh (λ source. length (unread source)) s.sources

-- packets on links and in inboxes
abbrev pub link_count : Source → ℕ
link_count source = weigh (λ lane. length lane.link) source.lanes

abbrev pub links_count : State → ℕ
links_count s = weigh link_count s.sources

abbrev pub inboxes_count : State → ℕ
inboxes_count s = weigh (λ target. length target.inbox) s.targets

links-fed_first : (row : Row) (n : ℕ) (lanes : List Lane) → weigh (λ (lane : Lane). length lane.link) (map (fed row) (take n lanes) ++ drop n lanes) ≡ weigh (λ (lane : Lane). length lane.link) lanes
links-fed_first row zero lanes = refl
links-fed_first row (suc n) [] = refl
links-fed_first row (suc n) (lane ∷ lanes) = ap (λ m. length lane.link + m) (links-fed_first row n lanes)

links-dealt : (n : ℕ) (next : Receivers) (row : Row) (lanes : List Lane) → weigh (λ (lane : Lane). length lane.link) (dealt n next row lanes) ≡ weigh (λ (lane : Lane). length lane.link) lanes
links-dealt n Nobody row lanes = refl
links-dealt n (One to) row lanes = weigh-set_same (λ (lane : Lane). length lane.link) lanes (place n to) (fed row (lane_at (place n to) lanes)) no_lane refl
links-dealt n AllCompute row lanes = links-fed_first row n lanes

links-read_first : (n : ℕ) (next : Receivers) (source : Source) (rows : List Row) → link_count (read_first n next source rows) ≡ link_count source
links-read_first n next source [] = refl
links-read_first n next source (row ∷ rows) = links-dealt n next row source.lanes

unread-read : (n : ℕ) (next : Receivers) (source : Source) → source.count < length source.rows → length (unread (after_read n next source)) + 1 ≡ length (unread source)
unread-read n next source less = by (unread source) refl
  where
    by : (rows : List Row) → unread source ≡ rows → length (unread (read_first n next source rows)) + 1 ≡ length (unread source)
    by [] none = let long = length-drop source.count source.rows in let nothing = ap length none in absurd (omega arith)
    by (row ∷ rows) some = unread-less source.rows source.count less

-- how the three counts of a state change at an event
pub record Changes (s now : State) (event : Event) : Type 0 where
  pub unread : unread_count now + one_if (is_read event) ≡ unread_count s
  pub links : links_count now + one_if (is_deliver event) ≡ links_count s + one_if (is_flush event)
  pub inboxes : inboxes_count now + one_if (is_copy event) ≡ inboxes_count s + one_if (is_deliver event)

module _ (job : Job) (s : State) (shaped : IsShaped job.nodes s) where
  pub changes : (event : Event) → is_enabled job s event ≡ true → Changes s (step job event s) event
  changes (Read from) enabled =
      let at = place job.nodes from in
      let source = source_at at s in
      let next = next_receivers job source in
      let after = after_read job.nodes next source in
      let inside = read_inside job.nodes s shaped next at enabled in
      let less : source.count < length source.rows = ltb-true _ _ (both _ _ enabled).0 in
      let fewer = unread-read job.nodes next source less in
      let swap = weigh-swap (λ (x : Source). length (unread x)) s.sources at after no_source (omega (arith, shaped.sources)) in
      let links = weigh-set_same link_count s.sources at after no_source (links-read_first job.nodes next source (unread source)) in
      record { unread = omega arith; links = omega arith; inboxes = refl }
  changes (Flush from to) enabled =
      let source = source_at (place job.nodes from) s in
      let lane = lane_at (place job.nodes to) source.lanes in
      let after = with_lane (place job.nodes to) (flushed lane) source in
      let inside = flush_inside job.nodes s shaped (place job.nodes from) (place job.nodes to) enabled in
      let more = length-append lane.link (record { from = lane.from; to = lane.to; rows = lane.filling } ∷ []) in
      let wide = shaped.lanes (place job.nodes from) inside.0 in
      let lanes = weigh-swap (λ (x : Lane). length x.link) source.lanes (place job.nodes to) (flushed lane) no_lane (omega (arith, inside.1)) in
      let swap = weigh-swap link_count s.sources (place job.nodes from) after no_source (omega (arith, shaped.sources, inside.0)) in
      let same = weigh-set_same (λ (x : Source). length (unread x)) s.sources (place job.nodes from) after no_source refl in
      record { unread = omega arith; links = omega arith; inboxes = refl }
  changes (Deliver from to) enabled =
      let source = source_at (place job.nodes from) s in
      let lane = lane_at (place job.nodes to) source.lanes in
      let after = with_lane (place job.nodes to) (delivered lane) source in
      let arrived = received (take 1 lane.link) (target_at (place job.nodes to) s) in
      let inside = deliver_inside job.nodes s shaped (place job.nodes from) (place job.nodes to) enabled in
      let some : 0 < length lane.link = ltb-true _ _ (both _ _ enabled).0 in
      let rest = length-drop 1 lane.link in
      let first = length-take-le 1 lane.link (omega arith) in
      let more = length-append (target_at (place job.nodes to) s).inbox (take 1 lane.link) in
      let wide = shaped.lanes (place job.nodes from) inside.0 in
      let lanes = weigh-swap (λ (x : Lane). length x.link) source.lanes (place job.nodes to) (delivered lane) no_lane (omega (arith, inside.1)) in
      let swap = weigh-swap link_count s.sources (place job.nodes from) after no_source (omega (arith, shaped.sources, inside.0)) in
      let same = weigh-set_same (λ (x : Source). length (unread x)) s.sources (place job.nodes from) after no_source refl in
      let targets = weigh-swap (λ (x : Target). length x.inbox) s.targets (place job.nodes to) arrived no_target (omega (arith, shaped.targets, inside.1)) in
      record { unread = omega arith; links = omega arith; inboxes = omega arith }
  changes (Copy to) enabled =
      let target = target_at (place job.nodes to) s in
      let inside = copy_inside job.nodes s shaped (place job.nodes to) enabled in
      let some : 0 < length target.inbox = ltb-true _ _ enabled in
      let rest = length-drop 1 target.inbox in
      let targets = weigh-swap (λ (x : Target). length x.inbox) s.targets (place job.nodes to) (copied target) no_target (omega (arith, shaped.targets)) in
      record { unread = omega arith; links = omega arith; inboxes = omega arith }

-- ---- over a run

pub record Counts (job : Job) (s : State) (events : List Event) : Type 0 where
  pub unread : unread_count (replay job events s) + count_by is_read events ≡ unread_count s
  pub links : links_count (replay job events s) + count_by is_deliver events ≡ links_count s + count_by is_flush events
  pub inboxes : inboxes_count (replay job events s) + count_by is_copy events ≡ inboxes_count s + count_by is_deliver events
  pub all : length events ≡ count_by is_read events + (count_by is_flush events + (count_by is_deliver events + count_by is_copy events))

pub one-cond : (b : Bool) → cond b 1 0 ≡ one_if b
one-cond true = refl
one-cond false = refl

one-kind : (event : Event) → one_if (is_read event) + (one_if (is_flush event) + (one_if (is_deliver event) + one_if (is_copy event))) ≡ 1
one-kind (Read from) = refl
one-kind (Flush from to) = refl
one-kind (Deliver from to) = refl
one-kind (Copy to) = refl

pub run-counts : (job : Job) (events : List Event) (s : State) → IsShaped job.nodes s → IsRun job s events → Counts job s events
run-counts job [] s shaped run = record { unread = omega arith; links = refl; inboxes = refl; all = refl }
run-counts job (event ∷ events) s shaped run =
    let change = changes job s shaped event run.0 in
    let rest = run-counts job events (step job event s) (step-shaped job s event shaped run.0) run.1 in
    let reads = count_by-cons is_read event events ∙ ap (λ m. m + count_by is_read events) (one-cond (is_read event)) in
    let flushes = count_by-cons is_flush event events ∙ ap (λ m. m + count_by is_flush events) (one-cond (is_flush event)) in
    let delivers = count_by-cons is_deliver event events ∙ ap (λ m. m + count_by is_deliver events) (one-cond (is_deliver event)) in
    let copies = count_by-cons is_copy event events ∙ ap (λ m. m + count_by is_copy events) (one-cond (is_copy event)) in
    let kind = one-kind event in
    record {
      unread = omega (arith, change.unread, rest.unread);
      links = omega (arith, change.links, rest.links);
      inboxes = omega (arith, change.inboxes, rest.inboxes);
      all = omega (arith, rest.all);
    }
