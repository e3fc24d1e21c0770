-- What is kept stays what the state says, after each event.
use Rattle.std.proofs.Common.{◌≡◌, ℕ, zero, suc, ◌<◌, ◌≤◌, ◌&&◌, nat_lt, Bool, List, [], ◌∷◌, ◌++◌, length, map, set, take, drop, get_or, refl, sym, ap, ◌∙◌, arith}
use Rattle.std.proofs.lemmas.List.{get_or-set_same, map-set, get_or-map, set-get_or, length-set, length-map}
use Rattle.std.specs.List.{list_all}
use Rattle.pdw_machine.proofs.GridLemmas.{set-set}
use Rattle.pdw_move.specs.declared.kinds.Receivers.{Receivers}
use Rattle.pdw_move.specs.declared.kinds.Receivers.TheVariants.{Nobody, One, AllCompute}
use Rattle.pdw_move.specs.Placed.{Row}
use Rattle.pdw_machine.specs.Flags.{with_column, with_flag}
use Rattle.pdw_machine.specs.Machine.{IsShaped, Job, Lane, Source, State, Target, after_read, can_copy, can_deliver, can_flush, copied, copy_at, dealt, deliver_at, delivered, fed, has_room, have_room, flush_at, flushed, lane_at, next_receivers, no_lane, no_source, no_target, place, read_at, read_first, received, source_at, target_at, unread, with_lane}
use Rattle.pdw_machine.specs.Ready.{IsReady, RefreshesCopy, RefreshesDeliver, RefreshesFlush, RefreshesRead, can_read_first, deliver_column, deliver_row, flush_row}
use Rattle.pdw_machine.specs.declared.ready.Ready.{Ready}

-- ---- a source in the place of another

module _ {X Y : Type 0} where
  -- the image changes where the list does
  pub map-set_to : (f : X → Y) (xs : List X) (i : ℕ) (x : X) (ys new : List Y) (y : Y)
      → ys ≡ map f xs → y ≡ f x → new ≡ set ys i y → new ≡ map f (set xs i x)
  map-set_to f xs i x ys new y was item now =
      now ∙ ap (λ zs. set zs i y) was ∙ ap (λ z. set (map f xs) i z) item ∙ sym (map-set f xs i x)

  -- and does not change where f cannot tell the two apart
  pub map-set_kept : (f : X → Y) (xs : List X) (i : ℕ) (x d : X) (ys new : List Y)
      → ys ≡ map f xs → i < length xs → f x ≡ f (get_or xs i d) → new ≡ ys → new ≡ map f (set xs i x)
  map-set_kept f xs i x d ys new was within same now =
      now ∙ was
      ∙ sym (set-get_or (map f xs) i (f d))
      ∙ ap (λ y. set (map f xs) i y) (get_or-map f xs i d (f d) within ∙ sym same)
      ∙ sym (map-set f xs i x)

-- ---- rows of the flags of links

deliver_row-nil : (lanes : List Lane) → deliver_row lanes [] ≡ []
deliver_row-nil [] = refl
deliver_row-nil (lane ∷ lanes) = refl

-- a lane in the place of another
pub deliver_row-set : (lanes : List Lane) (targets : List Target) (to : ℕ) (lane : Lane) → to < length targets
    → deliver_row (set lanes to lane) targets ≡ set (deliver_row lanes targets) to (can_deliver lane (get_or targets to no_target))
deliver_row-set [] targets to lane within = refl
deliver_row-set (first ∷ lanes) [] to lane within = absurd (omega arith)
deliver_row-set (first ∷ lanes) (target ∷ targets) zero lane within = refl
deliver_row-set (first ∷ lanes) (target ∷ targets) (suc to) lane within =
    ap (λ flags. can_deliver first target ∷ flags) (deliver_row-set lanes targets to lane (omega arith))

-- a target in the place of another
pub deliver_row-target : (lanes : List Lane) (targets : List Target) (to : ℕ) (target : Target)
    → deliver_row lanes (set targets to target) ≡ set (deliver_row lanes targets) to (can_deliver (lane_at to lanes) target)
deliver_row-target [] targets to target = refl
deliver_row-target (lane ∷ lanes) [] to target = refl
deliver_row-target (lane ∷ lanes) (first ∷ targets) zero target = refl
deliver_row-target (lane ∷ lanes) (first ∷ targets) (suc to) target =
    ap (λ flags. can_deliver lane first ∷ flags) (deliver_row-target lanes targets to target)

deliver_row-fed : (row : Row) (n : ℕ) (lanes : List Lane) (targets : List Target)
    → deliver_row (map (fed row) (take n lanes) ++ drop n lanes) targets ≡ deliver_row lanes targets
deliver_row-fed row zero lanes targets = refl
deliver_row-fed row (suc n) [] targets = refl
deliver_row-fed row (suc n) (lane ∷ lanes) [] = refl
deliver_row-fed row (suc n) (lane ∷ lanes) (target ∷ targets) = ap (λ flags. can_deliver lane target ∷ flags) (deliver_row-fed row n lanes targets)

deliver_row-fed_one : (row : Row) (to : ℕ) (lanes : List Lane) (targets : List Target)
    → deliver_row (set lanes to (fed row (lane_at to lanes))) targets ≡ deliver_row lanes targets
deliver_row-fed_one row to [] targets = refl
deliver_row-fed_one row zero (lane ∷ lanes) [] = refl
deliver_row-fed_one row (suc to) (lane ∷ lanes) [] = refl
deliver_row-fed_one row zero (lane ∷ lanes) (target ∷ targets) = refl
deliver_row-fed_one row (suc to) (lane ∷ lanes) (target ∷ targets) = ap (λ flags. can_deliver lane target ∷ flags) (deliver_row-fed_one row to lanes targets)

-- rows that are dealt change no link
deliver_row-dealt : (n : ℕ) (next : Receivers) (row : Row) (lanes : List Lane) (targets : List Target)
    → deliver_row (dealt n next row lanes) targets ≡ deliver_row lanes targets
deliver_row-dealt n Nobody row lanes targets = refl
deliver_row-dealt n (One to) row lanes targets = deliver_row-fed_one row (place n to) lanes targets
deliver_row-dealt n AllCompute row lanes targets = deliver_row-fed row n lanes targets

deliver_row-read_first : (n : ℕ) (next : Receivers) (source : Source) (rows : List Row) (targets : List Target)
    → deliver_row (read_first n next source rows).lanes targets ≡ deliver_row source.lanes targets
deliver_row-read_first n next source [] targets = refl
deliver_row-read_first n next source (row ∷ rows) targets = deliver_row-dealt n next row source.lanes targets

-- ---- columns

-- the flags of the links to a target, where the target, and maybe the links to it, changed
pub column_set : (to : ℕ) (target : Target) (targets : List Target) (sources : List Source)
    → with_column to (map (λ source. can_deliver (lane_at to source.lanes) target) sources) (map (λ source. deliver_row source.lanes targets) sources)
    ≡ map (λ source. deliver_row source.lanes (set targets to target)) sources
column_set to target targets [] = refl
column_set to target targets (source ∷ sources) =
    ap (λ rows. set (deliver_row source.lanes targets) to (can_deliver (lane_at to source.lanes) target) ∷ rows) (column_set to target targets sources)
    ∙ ap (λ row. row ∷ map (λ source. deliver_row source.lanes (set targets to target)) sources) (sym (deliver_row-target source.lanes targets to target))

-- a row of which one flag is overwritten anyway
column_over : (to : ℕ) (column : List Bool) (grid : List (List Bool)) (from : ℕ) (flag : Bool) → length grid ≤ length column
    → with_column to column (set grid from (set (get_or grid from []) to flag)) ≡ with_column to column grid
column_over to [] [] from flag long = refl
column_over to [] (row ∷ grid) from flag long = absurd (omega arith)
column_over to (b ∷ column) [] from flag long = refl
column_over to (b ∷ column) (row ∷ grid) zero flag long = ap (λ r. r ∷ with_column to column grid) (set-set row to flag b)
column_over to (b ∷ column) (row ∷ grid) (suc from) flag long = ap (λ rows. set row to b ∷ rows) (column_over to column grid from flag (omega arith))

-- ---- room for rows

room-set : (lanes : List Lane) (to at : ℕ) (lane : Lane) → has_room lane ≡ has_room (lane_at to lanes) → has_room (lane_at at (set lanes to lane)) ≡ has_room (lane_at at lanes)
room-set [] to at lane same = refl
room-set (first ∷ lanes) zero zero lane same = same
room-set (first ∷ lanes) zero (suc at) lane same = refl
room-set (first ∷ lanes) (suc to) zero lane same = refl
room-set (first ∷ lanes) (suc to) (suc at) lane same = room-set lanes to at lane same

room-set_all : (n : ℕ) (lanes : List Lane) (to : ℕ) (lane : Lane) → has_room lane ≡ has_room (lane_at to lanes) → list_all has_room (take n (set lanes to lane)) ≡ list_all has_room (take n lanes)
room-set_all zero lanes to lane same = refl
room-set_all (suc n) [] to lane same = refl
room-set_all (suc n) (first ∷ lanes) zero lane same = ap (λ b. b && list_all has_room (take n lanes)) same
room-set_all (suc n) (first ∷ lanes) (suc to) lane same = ap (λ b. has_room first && b) (room-set_all n lanes to lane same)

have_room-set : (n : ℕ) (next : Receivers) (lanes : List Lane) (to : ℕ) (lane : Lane) → has_room lane ≡ has_room (lane_at to lanes) → have_room n next (set lanes to lane) ≡ have_room n next lanes
have_room-set n Nobody lanes to lane same = refl
have_room-set n (One target) lanes to lane same = room-set lanes to (place n target) lane same
have_room-set n AllCompute lanes to lane same = room-set_all n lanes to lane same

-- ---- the four events

module _ (job : Job) (s : State) (shaped : IsShaped job.nodes s) (old new : Ready) (kept : IsReady job s old) where
  pub ready_read : (from : ℕ) (next : Receivers) → from ≤ job.nodes → RefreshesRead job (read_at job.nodes next from s) from old new → IsReady job (read_at job.nodes next from s) new
  ready_read from next inside done =
      let after = after_read job.nodes next (source_at from s) in
      let within : from < length s.sources = omega (arith, shaped.sources) in
      let there : source_at from (read_at job.nodes next from s) ≡ after = get_or-set_same s.sources from after no_source within in
      record {
        next = map-set_to (next_receivers job) s.sources from after old.next.items new.next.items _ kept.next (ap (next_receivers job) there) done.next;
        reads = map-set_to (can_read_first job) s.sources from after old.reads new.reads _ kept.reads (ap (can_read_first job) there) done.reads;
        flushes = map-set_to flush_row s.sources from after old.flushes new.flushes _ kept.flushes (ap flush_row there) done.flushes;
        delivers = map-set_kept (λ source. deliver_row source.lanes s.targets) s.sources from after no_source old.delivers new.delivers kept.delivers within
            (deliver_row-read_first job.nodes next (source_at from s) (unread (source_at from s)) s.targets) done.delivers;
        copies = done.copies ∙ kept.copies;
      }

  module _ (from to : ℕ) (inside : from ≤ job.nodes) (inside_to : to ≤ job.nodes) (lane : Lane) where
    abbrev source : Source
    source = source_at from s

    abbrev after : Source
    after = with_lane to lane source

    within : from < length s.sources
    within = omega (arith, shaped.sources)

    within_to : to < length s.targets
    within_to = omega (arith, shaped.targets)

    there : get_or (set s.sources from after) from no_source ≡ after
    there = get_or-set_same s.sources from after no_source within

    lane_there : lane_at to (get_or (set s.sources from after) from no_source).lanes ≡ lane
    lane_there =
        let wide = shaped.lanes from inside in
        ap (λ (x : Source). lane_at to x.lanes) there ∙ get_or-set_same source.lanes to lane no_lane (omega arith)

    -- one flag of a source's packets
    flushes_set : (now : List (List Bool))
        → now ≡ with_flag from to (can_flush (lane_at to (get_or (set s.sources from after) from no_source).lanes)) old.flushes
        → now ≡ map flush_row (set s.sources from after)
    flushes_set now done =
        map-set_to flush_row s.sources from after old.flushes now _ kept.flushes
        (ap (λ rows. set (get_or rows from []) to (can_flush (lane_at to (get_or (set s.sources from after) from no_source).lanes))) kept.flushes
        ∙ ap (λ row. set row to (can_flush (lane_at to (get_or (set s.sources from after) from no_source).lanes))) (get_or-map flush_row s.sources from no_source [] within)
        ∙ ap (λ l. set (flush_row source) to (can_flush l)) lane_there
        ∙ sym (map-set can_flush source.lanes to lane))
        done

    -- a source's row of the flags of links, with one lane in the place of another
    row_set : deliver_row after.lanes s.targets ≡ set (get_or (map (λ (x : Source). deliver_row x.lanes s.targets) s.sources) from []) to (can_deliver lane (target_at to s))
    row_set =
        deliver_row-set source.lanes s.targets to lane within_to
        ∙ ap (λ row. set row to (can_deliver lane (target_at to s))) (sym (get_or-map (λ (x : Source). deliver_row x.lanes s.targets) s.sources from no_source [] within))

  pub ready_flush : (from to : ℕ) → from ≤ job.nodes → to ≤ job.nodes → RefreshesFlush job (flush_at from to s) from to old new → IsReady job (flush_at from to s) new
  ready_flush from to inside inside_to done =
      let lane = flushed (lane_at to (source_at from s).lanes) in
      let changed = with_lane to lane (source_at from s) in
      record {
        next = map-set_kept (next_receivers job) s.sources from changed no_source old.next.items new.next.items kept.next (within from to inside inside_to lane) refl done.next;
        reads = map-set_to (can_read_first job) s.sources from changed old.reads new.reads _ kept.reads (ap (can_read_first job) (there from to inside inside_to lane)) done.reads;
        flushes = flushes_set from to inside inside_to lane new.flushes done.flushes;
        delivers = map-set_to (λ (x : Source). deliver_row x.lanes s.targets) s.sources from changed old.delivers new.delivers _ kept.delivers
            (ap (λ rows. set (get_or rows from []) to (can_deliver (lane_at to (source_at from (flush_at from to s)).lanes) (target_at to s))) kept.delivers
            ∙ ap (λ l. set (get_or (map (λ (x : Source). deliver_row x.lanes s.targets) s.sources) from []) to (can_deliver l (target_at to s))) (lane_there from to inside inside_to lane)
            ∙ sym (row_set from to inside inside_to lane))
            done.delivers;
        copies = done.copies ∙ kept.copies;
      }

  pub ready_deliver : (from to : ℕ) → from ≤ job.nodes → to ≤ job.nodes → RefreshesDeliver (deliver_at from to s) from to old new → IsReady job (deliver_at from to s) new
  ready_deliver from to inside inside_to done =
      let before = lane_at to (source_at from s).lanes in
      let lane = delivered before in
      let changed = with_lane to lane (source_at from s) in
      let arrived = received (take 1 before.link) (target_at to s) in
      let rows : Source → List Bool = λ x. deliver_row x.lanes s.targets in
      let target_there : target_at to (deliver_at from to s) ≡ arrived = get_or-set_same s.targets to arrived no_target (within_to from to inside inside_to lane) in
      let long : length (map rows s.sources) ≤ length (deliver_column to (deliver_at from to s)) = simp (length-map, length-set) (omega arith) in
      record {
        next = map-set_kept (next_receivers job) s.sources from changed no_source old.next.items new.next.items kept.next (within from to inside inside_to lane) refl done.next;
        reads = map-set_kept (can_read_first job) s.sources from changed no_source old.reads new.reads kept.reads (within from to inside inside_to lane)
            (ap (λ b. nat_lt (source_at from s).count (length (source_at from s).rows) && b) (have_room-set job.nodes (next_receivers job (source_at from s)) (source_at from s).lanes to lane refl))
            done.reads;
        flushes = flushes_set from to inside inside_to lane new.flushes done.flushes;
        delivers = done.delivers
            ∙ ap (λ grid. with_column to (deliver_column to (deliver_at from to s)) grid) kept.delivers
            ∙ sym (column_over to (deliver_column to (deliver_at from to s)) (map rows s.sources) from (can_deliver lane (target_at to s)) long)
            ∙ ap (λ row. with_column to (deliver_column to (deliver_at from to s)) (set (map rows s.sources) from row)) (sym (row_set from to inside inside_to lane))
            ∙ ap (λ grid. with_column to (deliver_column to (deliver_at from to s)) grid) (sym (map-set rows s.sources from changed))
            ∙ ap (λ target. with_column to (map (λ (x : Source). can_deliver (lane_at to x.lanes) target) (set s.sources from changed)) (map rows (set s.sources from changed))) target_there
            ∙ column_set to arrived s.targets (set s.sources from changed);
        copies = map-set_to can_copy s.targets to arrived old.copies new.copies _ kept.copies (ap can_copy target_there) done.copies;
      }

  pub ready_copy : (to : ℕ) → to ≤ job.nodes → RefreshesCopy (copy_at to s) to old new → IsReady job (copy_at to s) new
  ready_copy to inside done =
      let after = copied (target_at to s) in
      let within : to < length s.targets = omega (arith, shaped.targets) in
      let there : target_at to (copy_at to s) ≡ after = get_or-set_same s.targets to after no_target within in
      record {
        next = done.next ∙ kept.next;
        reads = done.reads ∙ kept.reads;
        flushes = done.flushes ∙ kept.flushes;
        delivers = done.delivers
            ∙ ap (λ rows. with_column to (deliver_column to (copy_at to s)) rows) kept.delivers
            ∙ ap (λ target. with_column to (map (λ source. can_deliver (lane_at to source.lanes) target) s.sources) (map (λ source. deliver_row source.lanes s.targets) s.sources)) there
            ∙ column_set to after s.targets s.sources;
        copies = map-set_to can_copy s.targets to after old.copies new.copies _ kept.copies (ap can_copy there) done.copies;
      }
