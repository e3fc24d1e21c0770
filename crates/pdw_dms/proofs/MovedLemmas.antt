-- Whatever happens, the rows that are meant for a target are written there, or on their way.
use Rattle.std.proofs.Common.{◌≡◌, ℕ, zero, suc, ◌+◌, ◌<◌, ◌≤◌, ◌==◌, nat_lt, Bool, true, false, cond, if◌then◌else◌, List, [], ◌∷◌, ◌++◌, length, map, filter, set, take, drop, get_or, refl, sym, ap, ◌∙◌, subst, arith, add-one, ltb-false, eqb-true, eq-eqb}
use Rattle.std.proofs.lemmas.Bool.{ltb-true, lt-ltb}
use Rattle.std.specs.List.{flat_map}
use Rattle.std.proofs.lemmas.List.{get_or-set_same, get_or-set_other, get_or_past}
use Rattle.std.proofs.lemmas.Grind.{flat_map-append}
use Rattle.pdw_base.specs.SameBag.{weigh}
use Rattle.pdw_base.proofs.SameBagLaws.{weigh-append, weigh-flat_map}
use Rattle.pdw_base.specs.declared.node.Node.{Node}
use Rattle.pdw_base.specs.declared.node.Node.TheVariants as node
use Rattle.pdw_packet.specs.Packet.{Parcel}
use Rattle.pdw_move.specs.declared.kinds.Receivers.{Receivers}
use Rattle.pdw_move.specs.declared.kinds.Receivers.TheVariants.{Nobody, One, AllCompute}
use Rattle.pdw_base.specs.Schema.{cell}
use Rattle.pdw_move.specs.Move.{is_same_node, reaches, receivers}
use Rattle.pdw_move.specs.Placed.{Row}
use Rattle.pdw_machine.specs.declared.event.Event.{Event}
use Rattle.pdw_machine.specs.declared.event.Event.TheVariants.{Read, Flush, Deliver, Copy}
use Rattle.pdw_machine.specs.Machine.{IsShaped, Job, Lane, Source, State, Target, after_read, copied, dealt, delivered, fed, first_receivers, flushed, goes, lane_at, next_receivers, no_lane, no_source, no_target, place, read_first, received, rows_in, source_at, step, target_at, unread, with_lane}
use Rattle.pdw_dms.specs.Moved.{IsThere, all_for, on_the_way}

-- ---- sums over lists of which one item changes

module _ {X : Type 0} (f : X → ℕ) where
  -- the sum stays, where the item weighs the same
  pub weigh-set_same : (xs : List X) (i : ℕ) (x d : X) → f x ≡ f (get_or xs i d) → weigh f (set xs i x) ≡ weigh f xs
  weigh-set_same [] i x d same = refl
  weigh-set_same (y ∷ xs) zero x d same = ap (λ m. m + weigh f xs) same
  weigh-set_same (y ∷ xs) (suc i) x d same = ap (λ m. f y + m) (weigh-set_same xs i x d same)

  -- the sum falls by as much as the item
  pub weigh-set_less : (xs : List X) (i : ℕ) (x d : X) (less : ℕ) → f x + less ≡ f (get_or xs i d) → (length xs ≤ i → less ≡ 0) → weigh f (set xs i x) + less ≡ weigh f xs
  weigh-set_less [] i x d less falls none = let zero_less = none (omega arith) in omega arith
  weigh-set_less (y ∷ xs) zero x d less falls none = omega arith
  weigh-set_less (y ∷ xs) (suc i) x d less falls none = let rest = weigh-set_less xs i x d less falls (λ past. none (omega arith)) in omega arith

  -- what f tells of an item at any place stays, where f cannot tell the new item from the one before
  pub value-set : (xs : List X) (i at : ℕ) (x d : X) → f x ≡ f (get_or xs i d) → f (get_or (set xs i x) at d) ≡ f (get_or xs at d)
  value-set [] i at x d same = refl
  value-set (y ∷ xs) zero zero x d same = same
  value-set (y ∷ xs) zero (suc at) x d same = refl
  value-set (y ∷ xs) (suc i) zero x d same = refl
  value-set (y ∷ xs) (suc i) (suc at) x d same = value-set xs i at x d same

-- ---- an item that loses or gains something

-- whether two places are one
abbrev one_place : ℕ → ℕ → Bool
one_place zero zero = true
one_place zero (suc b) = false
one_place (suc a) zero = false
one_place (suc a) (suc b) = one_place a b

abbrev pub at_place : ℕ → ℕ → ℕ → ℕ
at_place a b amount = if one_place a b then amount else 0

nothing_at : (a b amount : ℕ) → amount ≡ 0 → at_place a b amount ≡ 0
nothing_at a b amount none = by (one_place a b)
  where
    by : (c : Bool) → (if c then amount else 0) ≡ 0
    by true = none
    by false = refl

module _ {X : Type 0} (f : X → ℕ) where
  value-set_less : (xs : List X) (i at : ℕ) (x d : X) (less : ℕ) → f x + less ≡ f (get_or xs i d) → (length xs ≤ i → less ≡ 0)
      → f (get_or (set xs i x) at d) + at_place i at less ≡ f (get_or xs at d)
  value-set_less [] i at x d less falls none = let nothing = nothing_at i at less (none (omega arith)) in omega arith
  value-set_less (y ∷ xs) zero zero x d less falls none = falls
  value-set_less (y ∷ xs) zero (suc at) x d less falls none = omega arith
  value-set_less (y ∷ xs) (suc i) zero x d less falls none = omega arith
  value-set_less (y ∷ xs) (suc i) (suc at) x d less falls none = value-set_less xs i at x d less falls (λ past. none (omega arith))

  value-set_more : (xs : List X) (i at : ℕ) (x d : X) (more : ℕ) → f x ≡ f (get_or xs i d) + more → at < length xs
      → f (get_or (set xs i x) at d) ≡ f (get_or xs at d) + at_place i at more
  value-set_more [] i at x d more grows within = absurd (omega arith)
  value-set_more (y ∷ xs) zero zero x d more grows within = grows
  value-set_more (y ∷ xs) zero (suc at) x d more grows within = omega arith
  value-set_more (y ∷ xs) (suc i) zero x d more grows within = omega arith
  value-set_more (y ∷ xs) (suc i) (suc at) x d more grows within = value-set_more xs i at x d more grows (omega arith)

-- ---- places

pub there-inside : (n : ℕ) (to : Node) → IsThere n to → place n to ≤ n
there-inside n (node.Compute k) there = ap≤ (nat_lt k n) (lt-ltb k n there)
  where
    ap≤ : (b : Bool) → b ≡ true → (if b then k else suc k) ≤ n
    ap≤ true e = omega arith
    ap≤ false e = cc
there-inside n node.Control there = omega arith

-- two nodes of which one is there have one place only if they are one
pub same-place : (n : ℕ) (at to : Node) → IsThere n to → place n at ≡ place n to → is_same_node at to ≡ true
same-place n (node.Compute a) (node.Compute b) there same = by (nat_lt a n) (nat_lt b n) refl refl same
  where
    by : (c d : Bool) → nat_lt a n ≡ c → nat_lt b n ≡ d → (if c then a else suc a) ≡ (if d then b else suc b) → (a == b) ≡ true
    by true true e f eq = eq-eqb a b eq
    by true false e f eq = let beyond : n ≤ b = ltb-false _ _ f in absurd (omega arith)
    by false true e f eq = let beyond : n ≤ a = ltb-false _ _ e in absurd (omega arith)
    by false false e f eq = eq-eqb a b (omega arith)
same-place n (node.Compute a) node.Control there same = by (nat_lt a n) refl same
  where
    by : (c : Bool) → nat_lt a n ≡ c → (if c then a else suc a) ≡ n → false ≡ true
    by true e eq = let inside : a < n = ltb-true _ _ e in absurd (omega arith)
    by false e eq = let beyond : n ≤ a = ltb-false _ _ e in absurd (omega arith)
same-place n node.Control (node.Compute b) there same = by (nat_lt b n) refl same
  where
    by : (c : Bool) → nat_lt b n ≡ c → n ≡ (if c then b else suc b) → false ≡ true
    by true e eq = absurd (omega arith)
    by false e eq = let beyond : n ≤ b = ltb-false _ _ e in absurd (omega arith)
same-place n node.Control node.Control there same = refl

pub one_node : (at to : Node) → is_same_node at to ≡ true → at ≡ to
one_node (node.Compute a) (node.Compute b) same = ap (λ k. node.Compute k) (eqb-true a b same)
one_node (node.Compute a) node.Control same = cc
one_node node.Control (node.Compute b) same = cc
one_node node.Control node.Control same = refl

-- ---- a row that is dealt

module _ {X : Type 0} (f : X → X) where
  first-below : (xs : List X) (n k : ℕ) (d : X) → k < n → n ≤ length xs → get_or (map f (take n xs) ++ drop n xs) k d ≡ f (get_or xs k d)
  first-below [] n k d less within = absurd (omega arith)
  first-below (x ∷ xs) zero k d less within = absurd (omega arith)
  first-below (x ∷ xs) (suc n) zero d less within = refl
  first-below (x ∷ xs) (suc n) (suc k) d less within = first-below xs n k d (omega arith) (omega arith)

  first-beyond : (xs : List X) (n : ℕ) (d : X) → n < length xs → get_or (map f (take n xs) ++ drop n xs) n d ≡ get_or xs n d
  first-beyond [] n d within = absurd (omega arith)
  first-beyond (x ∷ xs) zero d within = refl
  first-beyond (x ∷ xs) (suc n) d within = first-beyond xs n d (omega arith)

-- it is in the packet to each of its receivers, and in no other
pub dealt-at : (n : ℕ) (next : Receivers) (row : Row) (lanes : List Lane) (to : Node) → length lanes ≡ suc n → IsThere n to
    → lane_at (place n to) (dealt n next row lanes) ≡ (if reaches n next to then fed row (lane_at (place n to) lanes) else lane_at (place n to) lanes)
dealt-at n Nobody row lanes to wide there = refl
dealt-at n (One at) row lanes to wide there = by (is_same_node at to) refl
  where
    by : (b : Bool) → is_same_node at to ≡ b
        → lane_at (place n to) (set lanes (place n at) (fed row (lane_at (place n at) lanes))) ≡ (if b then fed row (lane_at (place n to) lanes) else lane_at (place n to) lanes)
    by true same =
        let inside = there-inside n to there in
        ap (λ node. lane_at (place n to) (set lanes (place n node) (fed row (lane_at (place n node) lanes)))) (one_node at to same)
        ∙ get_or-set_same lanes (place n to) (fed row (lane_at (place n to) lanes)) no_lane (omega arith)
    by false other =
        get_or-set_other lanes (place n at) (place n to) (fed row (lane_at (place n at) lanes)) no_lane
        (λ e. let yes = same-place n at to there (sym e) in cc)
dealt-at n AllCompute row lanes (node.Compute k) wide there = by (nat_lt k n) refl
  where
    by : (b : Bool) → nat_lt k n ≡ b
        → lane_at (if b then k else suc k) (map (fed row) (take n lanes) ++ drop n lanes)
        ≡ (if b then fed row (lane_at (if b then k else suc k) lanes) else lane_at (if b then k else suc k) lanes)
    by true e = first-below (fed row) lanes n k no_lane there (omega arith)
    by false e = let beyond : n ≤ k = ltb-false _ _ e in absurd (omega arith)
dealt-at n AllCompute row lanes node.Control wide there = first-beyond (fed row) lanes n no_lane (omega arith)

pub drop-next : {X : Type 0} (xs : List X) (k : ℕ) (x : X) (rest : List X) → drop k xs ≡ x ∷ rest → drop (suc k) xs ≡ rest
drop-next [] zero x rest e = cc
drop-next [] (suc k) x rest e = cc
drop-next (y ∷ xs) zero x rest e = cc
drop-next (y ∷ xs) (suc k) x rest e = drop-next xs k x rest e

-- ---- weights

module _ (weight : Row → ℕ) where
  abbrev pub lane_weight : Lane → ℕ
  lane_weight lane = weigh weight (rows_in lane.link) + weigh weight lane.filling

  abbrev pub target_weight : Target → ℕ
  target_weight target = weigh weight target.written + weigh weight (rows_in target.inbox)

  rows_in-append : (xs ys : List Parcel) → weigh weight (rows_in (xs ++ ys)) ≡ weigh weight (rows_in xs) + weigh weight (rows_in ys)
  rows_in-append xs ys = ap (weigh weight) (flat_map-append (λ (packet : Parcel). packet.rows) xs ys) ∙ weigh-append weight (rows_in xs) (rows_in ys)

  rows_in-first : (xs : List Parcel) → weigh weight (rows_in (take 1 xs)) + weigh weight (rows_in (drop 1 xs)) ≡ weigh weight (rows_in xs)
  rows_in-first [] = omega arith
  rows_in-first (x ∷ xs) =
      let first = weigh-append weight x.rows [] in
      let all = weigh-append weight x.rows (rows_in xs) in
      omega arith

  flushed-weight : (lane : Lane) → lane_weight (flushed lane) ≡ lane_weight lane
  flushed-weight lane =
      let more = rows_in-append lane.link (record { from = lane.from; to = lane.to; rows = lane.filling } ∷ []) in
      let packet = weigh-append weight lane.filling [] in
      omega arith

  delivered-weight : (lane : Lane) → lane_weight (delivered lane) + weigh weight (rows_in (take 1 lane.link)) ≡ lane_weight lane
  delivered-weight lane = let parts = rows_in-first lane.link in omega arith

  received-weight : (packets : List Parcel) (target : Target) → target_weight (received packets target) ≡ target_weight target + weigh weight (rows_in packets)
  received-weight packets target = let more = rows_in-append target.inbox packets in omega arith

  copied-weight : (target : Target) → target_weight (copied target) ≡ target_weight target
  copied-weight target =
      let parts = rows_in-first target.inbox in
      let more = weigh-append weight target.written (rows_in (take 1 target.inbox)) in
      omega arith

  module _ (job : Job) (to : Node) where
    abbrev pub way_weight : Source → ℕ
    way_weight source = weigh weight (on_the_way job to source)

    pub way-parts : (source : Source) → way_weight source ≡ lane_weight (lane_at (place job.nodes to) source.lanes) + weigh weight (filter (goes job source.node to) (unread source))
    way-parts source =
        let lane = lane_at (place job.nodes to) source.lanes in
        let later = filter (goes job source.node to) (unread source) in
        let all = weigh-append weight (rows_in lane.link) (lane.filling ++ later) in
        let rest = weigh-append weight lane.filling later in
        omega arith

    way-read : (source : Source) → length source.lanes ≡ suc job.nodes → IsThere job.nodes to
        → way_weight (after_read job.nodes (next_receivers job source) source) ≡ way_weight source
    way-read source wide there = first (unread source) refl
      where
        lane : Lane
        lane = lane_at (place job.nodes to) source.lanes

        -- the row is in the packet to its receivers, or for others
        dealt-row : (b : Bool) (row : Row) (rest : List Row)
            → lane_weight (if b then fed row lane else lane) + weigh weight (filter (goes job source.node to) rest)
            ≡ lane_weight lane + weigh weight (cond b (row ∷ filter (goes job source.node to) rest) (filter (goes job source.node to) rest))
        dealt-row true row rest = let more = weigh-append weight lane.filling (row ∷ []) in omega arith
        dealt-row false row rest = refl

        first : (rows : List Row) → unread source ≡ rows
            → way_weight (read_first job.nodes (first_receivers job source.node rows) source rows) ≡ way_weight source
        first [] none = refl
        first (row ∷ rest) some =
            let next = receivers job.nodes job.mv source.node (cell job.columns row) in
            let after = read_first job.nodes next source (row ∷ rest) in
            way-parts after
            ∙ (λ i. lane_weight (dealt-at job.nodes next row source.lanes to wide there i)
            + weigh weight (filter (goes job source.node to) ((ap (λ k. drop k source.rows) (add-one source.count) ∙ drop-next source.rows source.count row rest some) i)))
            ∙ dealt-row (reaches job.nodes next to) row rest
            ∙ ap (λ rows. lane_weight lane + weigh weight (filter (goes job source.node to) rows)) (sym some)
            ∙ sym (way-parts source)

    way-lane : (source : Source) (at : ℕ) (lane : Lane) → lane_weight lane ≡ lane_weight (lane_at at source.lanes) → way_weight (with_lane at lane source) ≡ way_weight source
    way-lane source at lane same =
        let kept = value-set lane_weight source.lanes at (place job.nodes to) lane no_lane same in
        let before = way-parts source in
        let after = way-parts (with_lane at lane source) in
        omega arith

    pub all-parts : (s : State) → weigh weight (all_for job s to) ≡ target_weight (target_at (place job.nodes to) s) + weigh way_weight s.sources
    all-parts s =
        let target = target_at (place job.nodes to) s in
        let all = weigh-append weight target.written (rows_in target.inbox ++ flat_map (on_the_way job to) s.sources) in
        let rest = weigh-append weight (rows_in target.inbox) (flat_map (on_the_way job to) s.sources) in
        let ways = weigh-flat_map weight (on_the_way job to) s.sources in
        omega arith

    -- what a link gives up is missing on the way, if it leads to this target
    way-deliver : (source : Source) (at : ℕ)
        → way_weight (with_lane at (delivered (lane_at at source.lanes)) source) + at_place at (place job.nodes to) (weigh weight (rows_in (take 1 (lane_at at source.lanes).link)))
        ≡ way_weight source
    way-deliver source at =
        let lane = lane_at at source.lanes in
        let given = weigh weight (rows_in (take 1 lane.link)) in
        let nothing : length source.lanes ≤ at → given ≡ 0 = λ past. ap (λ (l : Lane). weigh weight (rows_in (take 1 l.link))) (get_or_past source.lanes at no_lane past) in
        let kept = value-set_less lane_weight source.lanes at (place job.nodes to) (delivered lane) no_lane given (delivered-weight lane) nothing in
        let before = way-parts source in
        let after = way-parts (with_lane at (delivered lane) source) in
        omega arith

    -- every event keeps the sum
    pub step-weight : (s : State) (event : Event) → IsShaped job.nodes s → IsThere job.nodes to → weigh weight (all_for job (step job event s) to) ≡ weigh weight (all_for job s to)
    step-weight s (Read from) shaped there =
        let at = place job.nodes from in
        let source = source_at at s in
        let after = after_read job.nodes (next_receivers job source) source in
        let same = by (nat_lt job.nodes at) refl in
        all-parts (step job (Read from) s)
        ∙ ap (λ m. target_weight (target_at (place job.nodes to) s) + m) (weigh-set_same way_weight s.sources at after no_source same)
        ∙ sym (all-parts s)
      where
        by : (b : Bool) → nat_lt job.nodes (place job.nodes from) ≡ b
            → way_weight (after_read job.nodes (next_receivers job (source_at (place job.nodes from) s)) (source_at (place job.nodes from) s)) ≡ way_weight (source_at (place job.nodes from) s)
        by true beyond =
            let outside : job.nodes < place job.nodes from = ltb-true _ _ beyond in
            let none = get_or_past s.sources (place job.nodes from) no_source (omega (arith, shaped.sources)) in
            subst (λ source. way_weight (after_read job.nodes (next_receivers job source) source) ≡ way_weight source) (sym none) refl
        by false not_beyond =
            let inside : place job.nodes from ≤ job.nodes = ltb-false _ _ not_beyond in
            way-read (source_at (place job.nodes from) s) (shaped.lanes (place job.nodes from) inside) there
    step-weight s (Flush from at) shaped there =
        let source = source_at (place job.nodes from) s in
        let lane = lane_at (place job.nodes at) source.lanes in
        all-parts (step job (Flush from at) s)
        ∙ ap (λ m. target_weight (target_at (place job.nodes to) s) + m)
        (weigh-set_same way_weight s.sources (place job.nodes from) (with_lane (place job.nodes at) (flushed lane) source) no_source
        (way-lane source (place job.nodes at) (flushed lane) (flushed-weight lane)))
        ∙ sym (all-parts s)
    step-weight s (Deliver from at) shaped there =
        let source = source_at (place job.nodes from) s in
        let lane = lane_at (place job.nodes at) source.lanes in
        let given = weigh weight (rows_in (take 1 lane.link)) in
        let arrived = received (take 1 lane.link) (target_at (place job.nodes at) s) in
        let missing = at_place (place job.nodes at) (place job.nodes to) given in
        let none : length s.sources ≤ place job.nodes from → missing ≡ 0 =
        λ past. nothing_at (place job.nodes at) (place job.nodes to) given
        (ap (λ (x : Source). weigh weight (rows_in (take 1 (lane_at (place job.nodes at) x.lanes).link))) (get_or_past s.sources (place job.nodes from) no_source past)) in
        let ways = weigh-set_less way_weight s.sources (place job.nodes from) (with_lane (place job.nodes at) (delivered lane) source) no_source missing (way-deliver source (place job.nodes at)) none in
        let inside = there-inside job.nodes to there in
        let gained = value-set_more target_weight s.targets (place job.nodes at) (place job.nodes to) arrived no_target given
        (received-weight (take 1 lane.link) (target_at (place job.nodes at) s)) (omega (arith, shaped.targets)) in
        let before = all-parts s in
        let after = all-parts (step job (Deliver from at) s) in
        omega arith
    step-weight s (Copy at) shaped there =
        let target = target_at (place job.nodes at) s in
        all-parts (step job (Copy at) s)
        ∙ ap (λ m. m + weigh way_weight s.sources) (value-set target_weight s.targets (place job.nodes at) (place job.nodes to) (copied target) no_target (copied-weight target))
        ∙ sym (all-parts s)
