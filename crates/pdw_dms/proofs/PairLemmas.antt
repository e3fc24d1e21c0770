-- The packets from a node to a node, and the rows that they carry.
use Rattle.std.proofs.Common.{◌≡◌, ℕ, zero, suc, ◌+◌, ◌*◌, ◌<◌, ◌≤◌, ◌&&◌, Bool, true, false, cond, if◌then◌else◌, List, [], ◌∷◌, length, filter, set, take, drop, get_or, refl, sym, ap, ◌∙◌, subst, arith, add-one}
use Rattle.std.proofs.lemmas.Bool.{ltb-true}
use Rattle.std.specs.List.{count_by, list_all}
use Rattle.std.proofs.lemmas.List.{get_or-set_same, get_or-set_other, length-append}
use Rattle.pdw_base.specs.declared.node.Node.{Node}
use Rattle.pdw_base.specs.declared.node.Node.TheVariants as node
use Rattle.pdw_base.specs.Schema.{cell}
use Rattle.pdw_move.specs.declared.kinds.Receivers.{Receivers}
use Rattle.pdw_move.specs.declared.kinds.Receivers.TheVariants.{Nobody, One, AllCompute}
use Rattle.pdw_move.specs.Move.{is_same_node, reaches, receivers}
use Rattle.pdw_move.specs.Placed.{Row}
use Rattle.pdw_machine.specs.declared.event.Event.{Event}
use Rattle.pdw_machine.specs.declared.event.Event.TheVariants.{Read, Flush, Deliver, Copy}
use Rattle.pdw_machine.specs.Events.{IsRun, replay}
use Rattle.pdw_machine.specs.Machine.{IsShaped, Job, Lane, Source, State, after_read, can_read, delivered, fed, first_receivers, flushed, goes, has_room, have_room, is_enabled, lane_at, next_receivers, no_lane, no_source, place, read_first, source_at, step, unread, with_lane}
use Rattle.pdw_machine.proofs.ShapeLemmas.{both, flush_inside, read_inside}
use Rattle.pdw_dms.specs.Ends.{is_flush_between}
use Rattle.pdw_dms.specs.Moved.{IsThere}
use Rattle.pdw_dms.proofs.CountLemmas.{count_by-cons, one-cond, one_if}
use Rattle.pdw_dms.proofs.MovedLemmas.{dealt-at, drop-next, one_node, same-place, value-set}
use Rattle.pdw_dms.proofs.TransferLemmas.{step-shaped}

all-there : (lanes : List Lane) (n k : ℕ) → list_all has_room (take n lanes) ≡ true → k < n → has_room (lane_at k lanes) ≡ true
all-there [] n k room less = refl
all-there (lane ∷ lanes) zero k room less = absurd (omega arith)
all-there (lane ∷ lanes) (suc n) zero room less = (both _ _ room).0
all-there (lane ∷ lanes) (suc n) (suc k) room less = all-there lanes n k (both _ _ room).1 (omega arith)

differ : {b : Bool} → b ≡ false → b ≡ true → ⊥
differ e f = cc

-- where no packet to the receivers is full, that to one of them is not
room-at : (n : ℕ) (next : Receivers) (lanes : List Lane) (to : Node) → have_room n next lanes ≡ true → reaches n next to ≡ true → has_room (lane_at (place n to) lanes) ≡ true
room-at n Nobody lanes to room reached = cc
room-at n (One at) lanes to room reached = subst (λ x. has_room (lane_at (place n x) lanes) ≡ true) (one_node at to reached) room
room-at n AllCompute lanes (node.Compute k) room reached =
    ap (λ b. has_room (lane_at (if b then k else suc k) lanes)) reached ∙ all-there lanes n k room (ltb-true _ _ reached)
room-at n AllCompute lanes node.Control room reached = cc

module _ (job : Job) (to : Node) (there_to : IsThere job.nodes to) where
  abbrev pub lane_to : Source → Lane
  lane_to source = lane_at (place job.nodes to) source.lanes

  -- rows for the target that are not on its link yet
  abbrev pub owed_by : Source → ℕ
  owed_by source = length (lane_to source).filling + length (filter (goes job source.node to) (unread source))

  owed-read : (source : Source) → length source.lanes ≡ suc job.nodes → owed_by (after_read job.nodes (next_receivers job source) source) ≡ owed_by source
  owed-read source wide = first (unread source) refl
    where
      dealt-row : (b : Bool) (row : Row) (rest : List Row)
          → length (if b then fed row (lane_to source) else lane_to source).filling + length (filter (goes job source.node to) rest)
          ≡ length (lane_to source).filling + length (cond b (row ∷ filter (goes job source.node to) rest) (filter (goes job source.node to) rest))
      dealt-row true row rest = let more = length-append (lane_to source).filling (row ∷ []) in omega arith
      dealt-row false row rest = refl

      first : (rows : List Row) → unread source ≡ rows → owed_by (read_first job.nodes (first_receivers job source.node rows) source rows) ≡ owed_by source
      first [] none = refl
      first (row ∷ rest) some =
          let next = receivers job.nodes job.mv source.node (cell job.columns row) in
          (λ i. length (dealt-at job.nodes next row source.lanes to wide there_to i).filling
          + length (filter (goes job source.node to) ((ap (λ k. drop k source.rows) (add-one source.count) ∙ drop-next source.rows source.count row rest some) i)))
          ∙ dealt-row (reaches job.nodes next to) row rest
          ∙ ap (λ rows. length (lane_to source).filling + length (filter (goes job source.node to) rows)) (sym some)

  owed-lane : (source : Source) (at : ℕ) (lane : Lane) → length lane.filling ≡ length (lane_at at source.lanes).filling → owed_by (with_lane at lane source) ≡ owed_by source
  owed-lane source at lane same =
      ap (λ m. m + length (filter (goes job source.node to) (unread source)))
      (value-set (λ (x : Lane). length x.filling) source.lanes at (place job.nodes to) lane no_lane same)

  -- ---- a packet that is filled fits

  fits-read : (source : Source) → length source.lanes ≡ suc job.nodes → can_read job.nodes (next_receivers job source) source ≡ true
      → length (lane_to source).filling ≤ 64 → length (lane_to (after_read job.nodes (next_receivers job source) source)).filling ≤ 64
  fits-read source wide enabled fits = first (unread source) refl (both _ _ enabled).1
    where
      one_more : (b : Bool) (row : Row) → (b ≡ true → has_room (lane_to source) ≡ true) → length (if b then fed row (lane_to source) else lane_to source).filling ≤ 64
      one_more true row room =
          let less : length (lane_to source).filling < 64 = ltb-true _ _ (room refl) in
          let more = length-append (lane_to source).filling (row ∷ []) in
          omega arith
      one_more false row room = fits

      first : (rows : List Row) → unread source ≡ rows → have_room job.nodes (first_receivers job source.node rows) source.lanes ≡ true
          → length (lane_to (read_first job.nodes (first_receivers job source.node rows) source rows)).filling ≤ 64
      first [] none room = fits
      first (row ∷ rest) some room =
          let next = receivers job.nodes job.mv source.node (cell job.columns row) in
          subst (λ (lane : Lane). length lane.filling ≤ 64) (sym (dealt-at job.nodes next row source.lanes to wide there_to))
          (one_more (reaches job.nodes next to) row (λ reached. room-at job.nodes next source.lanes to room reached))

  lane_less : (lanes : List Lane) (i at : ℕ) (lane : Lane) → length lane.filling ≤ length (lane_at i lanes).filling → length (lane_at at (set lanes i lane)).filling ≤ length (lane_at at lanes).filling
  lane_less [] i at lane less = omega arith
  lane_less (first ∷ lanes) zero zero lane less = less
  lane_less (first ∷ lanes) zero (suc at) lane less = omega arith
  lane_less (first ∷ lanes) (suc i) zero lane less = omega arith
  lane_less (first ∷ lanes) (suc i) (suc at) lane less = lane_less lanes i at lane less

  less_at : (sources : List Source) (i at : ℕ) (source : Source) → length (lane_to source).filling ≤ length (lane_to (get_or sources i no_source)).filling
      → length (lane_to (get_or sources at no_source)).filling ≤ 64 → length (lane_to (get_or (set sources i source) at no_source)).filling ≤ 64
  less_at [] i at source less fits = fits
  less_at (first ∷ sources) zero zero source less fits = omega arith
  less_at (first ∷ sources) zero (suc at) source less fits = fits
  less_at (first ∷ sources) (suc i) zero source less fits = fits
  less_at (first ∷ sources) (suc i) (suc at) source less fits = less_at sources i at source less fits

  module _ (from : Node) (there : IsThere job.nodes from) where
    abbrev pub owed : State → ℕ
    owed s = owed_by (source_at (place job.nodes from) s)

    abbrev pub Fits : State → Type 0
    Fits s = length (lane_to (source_at (place job.nodes from) s)).filling ≤ 64

    -- what an event takes from what is owed
    pub record Pays (s now : State) (event : Event) : Type 0 where
      pub some : owed now + one_if (is_flush_between from to event) ≤ owed s
      pub most : owed s ≤ owed now + 64 * one_if (is_flush_between from to event)

    pub pays : (s : State) (event : Event) → IsShaped job.nodes s → Fits s → is_enabled job s event ≡ true → Pays s (step job event s) event
    pays s (Read a) shaped fits enabled =
        let at = place job.nodes a in
        let source = source_at at s in
        let after = after_read job.nodes (next_receivers job source) source in
        let inside = read_inside job.nodes s shaped (next_receivers job source) at enabled in
        let same = value-set owed_by s.sources at (place job.nodes from) after no_source (owed-read source (shaped.lanes at inside)) in
        record { some = omega arith; most = omega arith }
    pays s (Flush a b) shaped fits enabled =
        let parts = by (is_same_node a from) (is_same_node b to) refl refl in
        record { some = parts.0; most = parts.1 }
      where
        source : Source
        source = source_at (place job.nodes a) s

        lane : Lane
        lane = lane_at (place job.nodes b) source.lanes

        after : Source
        after = with_lane (place job.nodes b) (flushed lane) source

        now : State
        now = step job (Flush a b) s

        inside : (place job.nodes a ≤ job.nodes) × (place job.nodes b ≤ job.nodes)
        inside = flush_inside job.nodes s shaped (place job.nodes a) (place job.nodes b) enabled

        filled : 0 < length lane.filling
        filled = ltb-true _ _ (both _ _ enabled).0

        same_way : owed_by after ≡ owed_by source → owed now ≡ owed s
        same_way kept = value-set owed_by s.sources (place job.nodes a) (place job.nodes from) after no_source kept

        by : (x y : Bool) → is_same_node a from ≡ x → is_same_node b to ≡ y → (owed now + one_if (x && y) ≤ owed s) × (owed s ≤ owed now + 64 * one_if (x && y))
        by true true e f =
            let p : place job.nodes a ≡ place job.nodes from = ap (place job.nodes) (one_node a from e) in
            let q : place job.nodes b ≡ place job.nodes to = ap (place job.nodes) (one_node b to f) in
            let wide = shaped.lanes (place job.nodes a) inside.0 in
            let here : source_at (place job.nodes from) now ≡ after =
            ap (λ k. source_at k now) (sym p) ∙ get_or-set_same s.sources (place job.nodes a) after no_source (omega (arith, shaped.sources, inside.0)) in
            let lane_here : lane_to after ≡ flushed lane =
            ap (λ k. lane_at k after.lanes) (sym q) ∙ get_or-set_same source.lanes (place job.nodes b) (flushed lane) no_lane (omega (arith, inside.1)) in
            let before : owed_by source ≡ owed s = ap (λ k. owed_by (source_at k s)) p in
            let lane_before : lane ≡ lane_to source = ap (λ k. lane_at k source.lanes) q in
            let length_before = ap (λ (l : Lane). length l.filling) lane_before in
            let paid = ap owed_by here in
            let empty = ap (λ (l : Lane). length l.filling) lane_here in
            let fits_here : length (lane_to source).filling ≤ 64 = subst (λ k. length (lane_to (source_at k s)).filling ≤ 64) (sym p) fits in
            let some : 0 < length lane.filling = filled in
            (omega arith, omega arith)
        by true false e f =
            let other = get_or-set_other source.lanes (place job.nodes b) (place job.nodes to) (flushed lane) no_lane
            (λ k. let yes = same-place job.nodes b to there_to (sym k) in differ f yes) in
            let same = same_way (ap (λ (l : Lane). length l.filling + length (filter (goes job source.node to) (unread source))) other) in
            (omega arith, omega arith)
        by false y e f =
            let other = get_or-set_other s.sources (place job.nodes a) (place job.nodes from) after no_source
            (λ k. let yes = same-place job.nodes a from there (sym k) in differ e yes) in
            let same = ap owed_by other in
            (omega arith, omega arith)
    pays s (Deliver a b) shaped fits enabled =
        let source = source_at (place job.nodes a) s in
        let lane = lane_at (place job.nodes b) source.lanes in
        let same = value-set owed_by s.sources (place job.nodes a) (place job.nodes from) (with_lane (place job.nodes b) (delivered lane) source) no_source
        (owed-lane source (place job.nodes b) (delivered lane) refl) in
        record { some = omega arith; most = omega arith }
    pays s (Copy b) shaped fits enabled = record { some = omega arith; most = omega arith }

    fits-step : (s : State) (event : Event) → IsShaped job.nodes s → Fits s → is_enabled job s event ≡ true → Fits (step job event s)
    fits-step s (Read a) shaped fits enabled =
        let at = place job.nodes a in
        let source = source_at at s in
        let next = next_receivers job source in
        let inside = read_inside job.nodes s shaped next at enabled in
        by (is_same_node a from) refl
      where
        by : (x : Bool) → is_same_node a from ≡ x → Fits (step job (Read a) s)
        by true e =
            let source = source_at (place job.nodes a) s in
            let inside = read_inside job.nodes s shaped (next_receivers job source) (place job.nodes a) enabled in
            let p : place job.nodes a ≡ place job.nodes from = ap (place job.nodes) (one_node a from e) in
            let after = after_read job.nodes (next_receivers job source) source in
            let here = ap (λ k. source_at k (step job (Read a) s)) (sym p) ∙ get_or-set_same s.sources (place job.nodes a) after no_source (omega (arith, shaped.sources)) in
            let fits_here : length (lane_to source).filling ≤ 64 = subst (λ k. length (lane_to (source_at k s)).filling ≤ 64) (sym p) fits in
            subst (λ (x : Source). length (lane_to x).filling ≤ 64) (sym here) (fits-read source (shaped.lanes (place job.nodes a) inside) enabled fits_here)
        by false e =
            let source = source_at (place job.nodes a) s in
            let after = after_read job.nodes (next_receivers job source) source in
            let other = get_or-set_other s.sources (place job.nodes a) (place job.nodes from) after no_source
            (λ k. let yes = same-place job.nodes a from there (sym k) in differ e yes) in
            subst (λ (x : Source). length (lane_to x).filling ≤ 64) (sym other) fits
    fits-step s (Flush a b) shaped fits enabled =
        let source = source_at (place job.nodes a) s in
        let lane = lane_at (place job.nodes b) source.lanes in
        less_at s.sources (place job.nodes a) (place job.nodes from) (with_lane (place job.nodes b) (flushed lane) source)
        (lane_less source.lanes (place job.nodes b) (place job.nodes to) (flushed lane) (omega arith)) fits
    fits-step s (Deliver a b) shaped fits enabled =
        let source = source_at (place job.nodes a) s in
        let lane = lane_at (place job.nodes b) source.lanes in
        less_at s.sources (place job.nodes a) (place job.nodes from) (with_lane (place job.nodes b) (delivered lane) source)
        (lane_less source.lanes (place job.nodes b) (place job.nodes to) (delivered lane) (omega arith)) fits
    fits-step s (Copy b) shaped fits enabled = fits

    -- ---- over a run

    pub record PaysAll (s : State) (events : List Event) : Type 0 where
      pub some : owed (replay job events s) + count_by (is_flush_between from to) events ≤ owed s
      pub most : owed s ≤ owed (replay job events s) + 64 * count_by (is_flush_between from to) events

    pub run-pays : (events : List Event) (s : State) → IsShaped job.nodes s → Fits s → IsRun job s events → PaysAll s events
    run-pays [] s shaped fits run = record { some = omega arith; most = omega arith }
    run-pays (event ∷ events) s shaped fits run =
        let first = pays s event shaped fits run.0 in
        let rest = run-pays events (step job event s) (step-shaped job s event shaped run.0) (fits-step s event shaped fits run.0) run.1 in
        let count = count_by-cons (is_flush_between from to) event events ∙ ap (λ m. m + count_by (is_flush_between from to) events) (one-cond (is_flush_between from to event)) in
        record { some = omega (arith, first.some, rest.some); most = omega (arith, first.most, rest.most) }
