-- The work that is left falls with every event.
use Rattle.std.proofs.Common.{◌≡◌, ℕ, zero, suc, ◌+◌, ◌*◌, ◌<◌, ◌≤◌, true, List, [], ◌∷◌, ◌++◌, length, map, set, take, drop, get_or, refl, ap, subst, arith}
use Rattle.std.proofs.lemmas.Bool.{ltb-true}
use Rattle.std.proofs.lemmas.List.{length-append, length-drop, length-take-le}
use Rattle.pdw_base.specs.SameBag.{weigh}
use Rattle.pdw_move.specs.declared.kinds.Receivers.{Receivers}
use Rattle.pdw_move.specs.declared.kinds.Receivers.TheVariants.{Nobody, One, AllCompute}
use Rattle.pdw_move.specs.Placed.{Row}
use Rattle.pdw_machine.specs.declared.event.Event.{Event}
use Rattle.pdw_machine.specs.declared.event.Event.TheVariants.{Read, Flush, Deliver, Copy}
use Rattle.pdw_machine.specs.Machine.{IsShaped, Job, Lane, Source, State, Target, after_read, copied, dealt, delivered, fed, flushed, is_enabled, lane_at, next_receivers, no_lane, no_source, no_target, place, read_first, received, source_at, step, target_at, unread, with_lane}
use Rattle.pdw_machine.proofs.ShapeLemmas.{both, copy_inside, deliver_inside, flush_inside, read_inside}

-- three steps are left for each row that is filled in, two for each packet on a link, one for each in an inbox
abbrev pub lane_work : Lane → ℕ
lane_work lane = 3 * length lane.filling + 2 * length lane.link

abbrev pub source_work : ℕ → Source → ℕ
source_work n source = (3 * n + 4) * length (unread source) + weigh lane_work source.lanes

abbrev pub target_work : Target → ℕ
target_work target = length target.inbox

abbrev pub work : Job → State → ℕ
work job s = weigh (source_work job.nodes) s.sources + weigh target_work s.targets

module _ {X : Type 0} (f : X → ℕ) where
  -- what stands in the place of an item takes its share of the sum
  pub weigh-swap : (xs : List X) (i : ℕ) (x d : X) → i < length xs → weigh f (set xs i x) + f (get_or xs i d) ≡ weigh f xs + f x
  weigh-swap [] i x d within = absurd (omega arith)
  weigh-swap (y ∷ xs) zero x d within = omega arith
  weigh-swap (y ∷ xs) (suc i) x d within = let rest = weigh-swap xs i x d (omega arith) in omega arith

fed_first-work : (row : Row) (n : ℕ) (lanes : List Lane) → weigh lane_work (map (fed row) (take n lanes) ++ drop n lanes) ≤ weigh lane_work lanes + 3 * n
fed_first-work row zero lanes = omega arith
fed_first-work row (suc n) [] = omega arith
fed_first-work row (suc n) (lane ∷ lanes) =
    let rest = fed_first-work row n lanes in
    let more = length-append lane.filling (row ∷ []) in
    omega arith

fed_one-work : (row : Row) (lanes : List Lane) (at : ℕ) → weigh lane_work (set lanes at (fed row (lane_at at lanes))) ≤ weigh lane_work lanes + 3
fed_one-work row [] at = omega arith
fed_one-work row (lane ∷ lanes) zero = let more = length-append lane.filling (row ∷ []) in omega arith
fed_one-work row (lane ∷ lanes) (suc at) = let rest = fed_one-work row lanes at in omega arith

dealt-work : (n : ℕ) (next : Receivers) (row : Row) (lanes : List Lane) → weigh lane_work (dealt n next row lanes) ≤ weigh lane_work lanes + (3 * n + 3)
dealt-work n Nobody row lanes = omega arith
dealt-work n (One to) row lanes = let one = fed_one-work row lanes (place n to) in omega arith
dealt-work n AllCompute row lanes = let all = fed_first-work row n lanes in omega arith

pub unread-less : (rows : List Row) (count : ℕ) → count < length rows → length (drop (count + 1) rows) + 1 ≡ length (drop count rows)
unread-less rows count less = let before = length-drop count rows in let after = length-drop (count + 1) rows in omega arith

read-work : (n : ℕ) (next : Receivers) (source : Source) → source.count < length source.rows → source_work n (after_read n next source) < source_work n source
read-work n next source less = by (unread source) refl
  where
    by : (rows : List Row) → unread source ≡ rows → source_work n (read_first n next source rows) < source_work n source
    by [] none = let long = length-drop source.count source.rows in let nothing = ap length none in absurd (omega arith)
    by (row ∷ rows) some =
        let fewer = unread-less source.rows source.count less in
        let lanes = dealt-work n next row source.lanes in
        falls (3 * n) (length (drop (source.count + 1) source.rows)) (length (unread source)) (weigh lane_work (dealt n next row source.lanes)) (weigh lane_work source.lanes) fewer lanes
      where
        falls : (m after before lanes_after lanes : ℕ) → after + 1 ≡ before → lanes_after ≤ lanes + (m + 3) → (m + 4) * after + lanes_after < (m + 4) * before + lanes
        falls m after before lanes_after lanes one bound =
            subst (λ b. (m + 4) * after + lanes_after < (m + 4) * b + lanes) one (omega arith)

module _ (job : Job) (s : State) (shaped : IsShaped job.nodes s) where
  pub work-falls : (event : Event) → is_enabled job s event ≡ true → work job (step job event s) < work job s
  work-falls (Read from) enabled =
      let at = place job.nodes from in
      let source = source_at at s in
      let next = next_receivers job source in
      let inside = read_inside job.nodes s shaped next at enabled in
      let less : source.count < length source.rows = ltb-true _ _ (both _ _ enabled).0 in
      let falls = read-work job.nodes next source less in
      let swap = weigh-swap (source_work job.nodes) s.sources at (after_read job.nodes next source) no_source (omega (arith, shaped.sources)) in
      omega arith
  work-falls (Flush from to) enabled =
      let source = source_at (place job.nodes from) s in
      let lane = lane_at (place job.nodes to) source.lanes in
      let inside = flush_inside job.nodes s shaped (place job.nodes from) (place job.nodes to) enabled in
      let some : 0 < length lane.filling = ltb-true _ _ (both _ _ enabled).0 in
      let more = length-append lane.link (record { from = lane.from; to = lane.to; rows = lane.filling } ∷ []) in
      let wide = shaped.lanes (place job.nodes from) inside.0 in
      let lanes = weigh-swap lane_work source.lanes (place job.nodes to) (flushed lane) no_lane (omega (arith, inside.1)) in
      let swap = weigh-swap (source_work job.nodes) s.sources (place job.nodes from) (with_lane (place job.nodes to) (flushed lane) source) no_source (omega (arith, shaped.sources, inside.0)) in
      omega arith
  work-falls (Deliver from to) enabled =
      let source = source_at (place job.nodes from) s in
      let lane = lane_at (place job.nodes to) source.lanes in
      let arrived = received (take 1 lane.link) (target_at (place job.nodes to) s) in
      let inside = deliver_inside job.nodes s shaped (place job.nodes from) (place job.nodes to) enabled in
      let some : 0 < length lane.link = ltb-true _ _ (both _ _ enabled).0 in
      let rest = length-drop 1 lane.link in
      let first = length-take-le 1 lane.link (omega arith) in
      let more = length-append (target_at (place job.nodes to) s).inbox (take 1 lane.link) in
      let wide = shaped.lanes (place job.nodes from) inside.0 in
      let lanes = weigh-swap lane_work source.lanes (place job.nodes to) (delivered lane) no_lane (omega (arith, inside.1)) in
      let swap = weigh-swap (source_work job.nodes) s.sources (place job.nodes from) (with_lane (place job.nodes to) (delivered lane) source) no_source (omega (arith, shaped.sources, inside.0)) in
      let targets = weigh-swap target_work s.targets (place job.nodes to) arrived no_target (omega (arith, shaped.targets, inside.1)) in
      omega arith
  work-falls (Copy to) enabled =
      let target = target_at (place job.nodes to) s in
      let inside = copy_inside job.nodes s shaped (place job.nodes to) enabled in
      let some : 0 < length target.inbox = ltb-true _ _ enabled in
      let rest = length-drop 1 target.inbox in
      let targets = weigh-swap target_work s.targets (place job.nodes to) (copied target) no_target (omega (arith, shaped.targets)) in
      omega arith
