-- What is kept counts and numbers the enabled events, and says of each event whether it is enabled.
use Rattle.std.proofs.Common.{◌≡◌, ℕ, zero, suc, ◌+◌, ◌-◌, ◌<◌, ◌≤◌, nat_lt, Bool, true, false, if◌then◌else◌, List, [], ◌∷◌, ◌++◌, length, map, filter, get_or, refl, sym, ap, ◌∙◌, arith, subst, ltb-false}
use Rattle.std.proofs.lemmas.Bool.{ltb-true}
use Rattle.std.specs.List.{flat_map}
use Rattle.std.proofs.lemmas.List.{length-append, length-map, get_or-map, get_or_append_left, get_or-append_right, get_or_past, get_or_push}
use Rattle.std.proofs.lemmas.List.Elements.{filter-append}
use Rattle.pdw_base.specs.declared.node.Node.{Node}
use Rattle.pdw_base.specs.declared.node.Node.TheVariants as node
use Rattle.pdw_move.specs.Placed.{all_nodes, compute_nodes}
use Rattle.pdw_machine.specs.declared.event.Event.{Event}
use Rattle.pdw_machine.specs.declared.event.Event.TheVariants.{Read, Flush, Deliver, Copy}
use Rattle.pdw_machine.specs.declared.ready.Ready.{Ready}
use Rattle.pdw_machine.specs.Events.{enabled_events}
use Rattle.pdw_machine.specs.Flags.{grid_count, grid_place, grid_row, up_count, up_place}
use Rattle.pdw_machine.specs.Machine.{IsShaped, Job, Lane, Source, State, Target, can_copy, can_deliver, can_flush, deliver_enabled, flush_enabled, is_enabled, lane_at, no_lane, no_source, no_target, place, source_at, target_at}
use Rattle.pdw_machine.specs.Ready.{IsReady, can_read_first, copy_numbered, deliver_numbered, deliver_row, flush_numbered, flush_row, is_up, node_at, numbered, up_in_all}
use Rattle.pdw_machine.proofs.NumberLemmas.{first_values, first_values-map, get_or-filter, get_or-filter_rows, length-filter, length-filter_rows, map-all_nodes, map-by_place}
use Rattle.pdw_machine.proofs.StartLemmas.{length-all_nodes, length-compute_nodes, map-map}

-- ---- nodes by number

get_or-compute_nodes : (n p : ℕ) (d : Node) → p < n → get_or (compute_nodes n) p d ≡ node.Compute p
get_or-compute_nodes zero p d within = absurd (omega arith)
get_or-compute_nodes (suc n) p d within = by (nat_lt p n) refl (λ inside. get_or-compute_nodes n p d inside)
  where
    by : (b : Bool) → nat_lt p n ≡ b → (p < n → get_or (compute_nodes n) p d ≡ node.Compute p) → get_or (compute_nodes n ++ node.Compute n ∷ []) p d ≡ node.Compute p
    by true less before =
        let long = length-compute_nodes n in
        let inside : p < n = ltb-true _ _ less in
        get_or_append_left (compute_nodes n) (node.Compute n ∷ []) d p (omega arith) ∙ before inside
    by false not_less before =
        let outside : n ≤ p = ltb-false _ _ not_less in
        let same : n ≡ p = omega arith in
        get_or_push (compute_nodes n) (node.Compute n) d p (length-compute_nodes n ∙ same) ∙ ap (λ k. node.Compute k) same

pub get_or-all_nodes : (n p : ℕ) (d : Node) → p < suc n → get_or (all_nodes n) p d ≡ node_at n p
get_or-all_nodes n p d within = by (nat_lt p n) refl
  where
    by : (b : Bool) → nat_lt p n ≡ b → get_or (compute_nodes n ++ node.Control ∷ []) p d ≡ (if b then node.Compute p else node.Control)
    by true less =
        let long = length-compute_nodes n in
        let inside : p < n = ltb-true _ _ less in
        get_or_append_left (compute_nodes n) (node.Control ∷ []) d p (omega arith) ∙ get_or-compute_nodes n p d inside
    by false not_less =
        let outside : n ≤ p = ltb-false _ _ not_less in
        let same : n ≡ p = omega arith in
        get_or_push (compute_nodes n) node.Control d p (length-compute_nodes n ∙ same)

-- ---- places within their rows

up_place-within : (flags : List Bool) (k : ℕ) → k < up_count flags → up_place flags k < length flags
up_place-within [] k less = absurd (omega arith)
up_place-within (true ∷ flags) zero less = omega arith
up_place-within (true ∷ flags) (suc k) less = let rest = up_place-within flags k (omega arith) in omega arith
up_place-within (false ∷ flags) k less = let rest = up_place-within flags k less in omega arith

grid-within : {I : Type 0} (f : I → List Bool) (m : ℕ) → ((i : I) → length (f i) ≡ m) → (is : List I) (k : ℕ) → k < grid_count (map f is)
    → (grid_row (map f is) k < length is) × (grid_place (map f is) k < m)
grid-within f m long [] k less = absurd (omega arith)
grid-within f m long (i ∷ is) k less = by (nat_lt k (up_count (f i))) refl (λ j fewer. grid-within f m long is j fewer)
  where
    by : (b : Bool) → nat_lt k (up_count (f i)) ≡ b
        → ((j : ℕ) → j < grid_count (map f is) → (grid_row (map f is) j < length is) × (grid_place (map f is) j < m))
        → ((if b then 0 else suc (grid_row (map f is) (k - up_count (f i)))) < length (i ∷ is))
        × ((if b then up_place (f i) k else grid_place (map f is) (k - up_count (f i))) < m)
    by true first below =
        let inside = up_place-within (f i) k (ltb-true _ _ first) in
        let wide = long i in
        (omega arith, omega arith)
    by false later below =
        let outside : up_count (f i) ≤ k = ltb-false _ _ later in
        let rest = below (k - up_count (f i)) (omega (arith, less)) in
        (omega (arith, rest.0), rest.1)

first_values-same : {Y : Type 0} (f g : ℕ → Y) (n : ℕ) → ((k : ℕ) → k < n → f k ≡ g k) → first_values f n ≡ first_values g n
first_values-same f g zero same = refl
first_values-same f g (suc n) same =
    ap (λ y. y ∷ first_values (λ k. f (suc k)) n) (same 0 (omega arith))
    ∙ ap (λ ys. g 0 ∷ ys) (first_values-same (λ k. f (suc k)) (λ k. g (suc k)) n (λ k less. same (suc k) (omega arith)))

deliver_row-values : (m : ℕ) (lanes : List Lane) (targets : List Target) → length lanes ≡ m → length targets ≡ m
    → deliver_row lanes targets ≡ first_values (λ q. can_deliver (lane_at q lanes) (get_or targets q no_target)) m
deliver_row-values zero [] targets long long_targets = refl
deliver_row-values zero (lane ∷ lanes) targets long long_targets = absurd (omega arith)
deliver_row-values (suc m) [] targets long long_targets = absurd (omega arith)
deliver_row-values (suc m) (lane ∷ lanes) [] long long_targets = absurd (omega arith)
deliver_row-values (suc m) (lane ∷ lanes) (target ∷ targets) long long_targets =
    ap (λ flags. can_deliver lane target ∷ flags) (deliver_row-values m lanes targets (omega arith) (omega arith))

-- ---- the flags are those of the events

module _ (job : Job) (s : State) (shaped : IsShaped job.nodes s) (ready : Ready) (right : IsReady job s ready) where
  abbrev nodes : List Node
  nodes = all_nodes job.nodes

  abbrev test : Event → Bool
  test = is_enabled job s

  abbrev n : ℕ
  n = job.nodes

  reads_are : map test (map (λ from. Read from) nodes) ≡ ready.reads
  reads_are =
      map-map test (λ from. Read from) nodes
      ∙ map-by_place n s.sources no_source (can_read_first job) shaped.sources
      ∙ sym right.reads

  copies_are : map test (map (λ to. Copy to) nodes) ≡ ready.copies
  copies_are =
      map-map test (λ to. Copy to) nodes
      ∙ map-by_place n s.targets no_target can_copy shaped.targets
      ∙ sym right.copies

  -- rows of flags of events by two nodes
  grid_is : (event : Node → Node → Event) (enabled : ℕ → ℕ → Bool) (row : Source → List Bool)
      → ((from to : Node) → test (event from to) ≡ enabled (place n from) (place n to))
      → ((p : ℕ) → p < suc n → first_values (λ q. enabled p q) (suc n) ≡ row (source_at p s))
      → map (λ from. map test (map (λ to. event from to) nodes)) nodes ≡ map row s.sources
  grid_is event enabled row same rows =
      (λ j. map (λ from. (map-map test (λ to. event from to) nodes ∙ (λ i. map (λ to. same from to i) nodes) ∙ map-all_nodes n (λ q. enabled (place n from) q)) j) nodes)
      ∙ map-all_nodes n (λ p. first_values (λ q. enabled p q) (suc n))
      ∙ first_values-same (λ p. first_values (λ q. enabled p q) (suc n)) (λ p. row (source_at p s)) (suc n) rows
      ∙ ap (first_values (λ p. row (source_at p s))) (sym shaped.sources)
      ∙ sym (first_values-map row s.sources no_source)

  flushes_are : map (λ from. map test (map (λ to. Flush from to) nodes)) nodes ≡ ready.flushes
  flushes_are =
      grid_is (λ from to. Flush from to) (λ p q. flush_enabled p q s) flush_row (λ from to. refl)
      (λ p less. let wide = shaped.lanes p (omega arith) in
      ap (first_values (λ q. flush_enabled p q s)) (sym wide) ∙ sym (first_values-map can_flush (source_at p s).lanes no_lane))
      ∙ sym right.flushes

  delivers_are : map (λ from. map test (map (λ to. Deliver from to) nodes)) nodes ≡ ready.delivers
  delivers_are =
      grid_is (λ from to. Deliver from to) (λ p q. deliver_enabled p q s) (λ (source : Source). deliver_row source.lanes s.targets) (λ from to. refl)
      (λ p less. sym (deliver_row-values (suc n) (source_at p s).lanes s.targets (shaped.lanes p (omega arith)) shaped.targets))
      ∙ sym right.delivers

  -- ---- their number

  abbrev flush_events : List Event
  flush_events = flat_map (λ from. map (λ to. Flush from to) nodes) nodes

  abbrev deliver_events : List Event
  deliver_events = flat_map (λ from. map (λ to. Deliver from to) nodes) nodes

  abbrev copy_events : List Event
  copy_events = map (λ to. Copy to) nodes

  abbrev read_events : List Event
  read_events = map (λ from. Read from) nodes

  parted : enabled_events job s ≡ filter test read_events ++ (filter test flush_events ++ (filter test deliver_events ++ filter test copy_events))
  parted =
      filter-append test read_events (flush_events ++ (deliver_events ++ copy_events))
      ∙ ap (λ xs. filter test read_events ++ xs) (filter-append test flush_events (deliver_events ++ copy_events))
      ∙ ap (λ xs. filter test read_events ++ (filter test flush_events ++ xs)) (filter-append test deliver_events copy_events)

  read_count : length (filter test read_events) ≡ up_count ready.reads
  read_count = length-filter test read_events ∙ ap up_count reads_are

  flush_count : length (filter test flush_events) ≡ grid_count ready.flushes
  flush_count = length-filter_rows test (λ from. map (λ to. Flush from to) nodes) nodes ∙ ap grid_count flushes_are

  deliver_count : length (filter test deliver_events) ≡ grid_count ready.delivers
  deliver_count = length-filter_rows test (λ from. map (λ to. Deliver from to) nodes) nodes ∙ ap grid_count delivers_are

  copy_count : length (filter test copy_events) ≡ up_count ready.copies
  copy_count = length-filter test copy_events ∙ ap up_count copies_are

  pub up_in_all-length : up_in_all ready ≡ length (enabled_events job s)
  up_in_all-length =
      let reads = read_count in let flushes = flush_count in let delivers = deliver_count in let copies = copy_count in
      let all = ap length parted in
      let first = length-append (filter test read_events) (filter test flush_events ++ (filter test deliver_events ++ filter test copy_events)) in
      let second = length-append (filter test flush_events) (filter test deliver_events ++ filter test copy_events) in
      let third = length-append (filter test deliver_events) (filter test copy_events) in
      omega arith

  -- ---- the k-th of them

  -- the events of one node, and of two
  one_numbered : (event : Node → Event) (p : ℕ) (d : Event) → p < suc n → get_or (map event nodes) p d ≡ event (node_at n p)
  one_numbered event p d within =
      let long = length-all_nodes n in
      get_or-map event nodes p node.Control d (omega arith) ∙ ap event (get_or-all_nodes n p node.Control within)

  row_long : (event : Node → Node → Event) (from : Node) → length (map test (map (λ to. event from to) nodes)) ≡ suc n
  row_long event from = length-map (map (λ to. event from to) nodes) test ∙ length-map nodes (λ to. event from to) ∙ length-all_nodes n

  two_numbered : (event : Node → Node → Event) (k : ℕ) (d : Event) (grid : List (List Bool))
      → map (λ from. map test (map (λ to. event from to) nodes)) nodes ≡ grid → k < grid_count grid
      → get_or (filter test (flat_map (λ from. map (λ to. event from to) nodes) nodes)) k d ≡ event (node_at n (grid_row grid k)) (node_at n (grid_place grid k))
  two_numbered event k d grid are less =
      let own = map (λ from. map test (map (λ to. event from to) nodes)) nodes in
      let own_less : k < grid_count own = subst (λ g. k < grid_count g) (sym are) less in
      let inside = grid-within (λ from. map test (map (λ to. event from to) nodes)) (suc n) (row_long event) nodes k own_less in
      let long = length-all_nodes n in
      get_or-filter_rows test (λ from. map (λ to. event from to) nodes) nodes k d node.Control own_less
      ∙ ap (λ from. get_or (map (λ to. event from to) nodes) (grid_place own k) d) (get_or-all_nodes n (grid_row own k) node.Control (omega (arith, inside.0)))
      ∙ one_numbered (event (node_at n (grid_row own k))) (grid_place own k) d inside.1
      ∙ ap (λ g. event (node_at n (grid_row g k)) (node_at n (grid_place g k))) are

  flags_numbered : (event : Node → Event) (k : ℕ) (d : Event) (flags : List Bool) → map test (map event nodes) ≡ flags → length flags ≡ suc n → k < up_count flags
      → get_or (filter test (map event nodes)) k d ≡ event (node_at n (up_place flags k))
  flags_numbered event k d flags are wide less =
      let own_less : k < up_count (map test (map event nodes)) = subst (λ f. k < up_count f) (sym are) less in
      let inside = up_place-within flags k less in
      get_or-filter test (map event nodes) k d own_less
      ∙ ap (λ f. get_or (map event nodes) (up_place f k) d) are
      ∙ one_numbered event (up_place flags k) d (omega arith)

  -- past a first part of the list
  part : (xs ys : List Event) (count k : ℕ) (d first rest : Event) → length xs ≡ count
      → (k < count → get_or xs k d ≡ first) → (count ≤ k → get_or ys (k - count) d ≡ rest) → get_or (xs ++ ys) k d ≡ (if nat_lt k count then first else rest)
  part xs ys count k d first rest long before after = by (nat_lt k count) refl
    where
      by : (b : Bool) → nat_lt k count ≡ b → get_or (xs ++ ys) k d ≡ (if b then first else rest)
      by true less = let inside : k < count = ltb-true _ _ less in get_or_append_left xs ys d k (omega arith) ∙ before inside
      by false not_less = let outside : count ≤ k = ltb-false _ _ not_less in get_or-append_right xs ys count k d long outside ∙ after outside

  copies_numbered : (k : ℕ) (d : Event) → k < up_count ready.copies → get_or (filter test copy_events) k d ≡ copy_numbered n ready k
  copies_numbered k d less =
      flags_numbered (λ to. Copy to) k d ready.copies copies_are (ap length right.copies ∙ length-map s.targets can_copy ∙ shaped.targets) less

  delivers_numbered : (k : ℕ) (d : Event) → k < grid_count ready.delivers + up_count ready.copies
      → get_or (filter test deliver_events ++ filter test copy_events) k d ≡ deliver_numbered n ready k
  delivers_numbered k d less =
      part (filter test deliver_events) (filter test copy_events) (grid_count ready.delivers) k d _ _ deliver_count
      (λ inside. two_numbered (λ from to. Deliver from to) k d ready.delivers delivers_are inside)
      (λ outside. copies_numbered (k - grid_count ready.delivers) d (omega arith))

  flushes_numbered : (k : ℕ) (d : Event) → k < grid_count ready.flushes + (grid_count ready.delivers + up_count ready.copies)
      → get_or (filter test flush_events ++ (filter test deliver_events ++ filter test copy_events)) k d ≡ flush_numbered n ready k
  flushes_numbered k d less =
      part (filter test flush_events) (filter test deliver_events ++ filter test copy_events) (grid_count ready.flushes) k d _ _ flush_count
      (λ inside. two_numbered (λ from to. Flush from to) k d ready.flushes flushes_are inside)
      (λ outside. delivers_numbered (k - grid_count ready.flushes) d (omega arith))

  pub all_numbered : (k : ℕ) (d : Event) → k < up_in_all ready → get_or (enabled_events job s) k d ≡ numbered n ready k
  all_numbered k d less =
      ap (λ xs. get_or xs k d) parted
      ∙ part (filter test read_events) (filter test flush_events ++ (filter test deliver_events ++ filter test copy_events)) (up_count ready.reads) k d _ _ read_count
      (λ inside. flags_numbered (λ from. Read from) k d ready.reads reads_are (ap length right.reads ∙ length-map s.sources (can_read_first job) ∙ shaped.sources) inside)
      (λ outside. flushes_numbered (k - up_count ready.reads) d (omega arith))

  -- ---- each event's flag

  get_or-map_default : {X Y : Type 0} (f : X → Y) (xs : List X) (p : ℕ) (d : X) → get_or (map f xs) p (f d) ≡ f (get_or xs p d)
  get_or-map_default f [] p d = refl
  get_or-map_default f (x ∷ xs) zero d = refl
  get_or-map_default f (x ∷ xs) (suc p) d = get_or-map_default f xs p d

  deliver_row-at : (lanes : List Lane) (targets : List Target) (q : ℕ) → length lanes ≤ length targets
      → get_or (deliver_row lanes targets) q false ≡ can_deliver (lane_at q lanes) (get_or targets q no_target)
  deliver_row-at [] targets q long = refl
  deliver_row-at (lane ∷ lanes) [] q long = absurd (omega arith)
  deliver_row-at (lane ∷ lanes) (target ∷ targets) zero long = refl
  deliver_row-at (lane ∷ lanes) (target ∷ targets) (suc q) long = deliver_row-at lanes targets q (omega arith)

  -- a row of the links of a source that is there, or of none
  deliver_rows-at : (p q : ℕ) → get_or (get_or (map (λ (source : Source). deliver_row source.lanes s.targets) s.sources) p []) q false
      ≡ can_deliver (lane_at q (source_at p s).lanes) (target_at q s)
  deliver_rows-at p q =
      ap (λ row. get_or row q false) (get_or-map_default (λ (source : Source). deliver_row source.lanes s.targets) s.sources p no_source)
      ∙ deliver_row-at (source_at p s).lanes s.targets q (short (nat_lt n p) refl)
    where
      short : (b : Bool) → nat_lt n p ≡ b → length (source_at p s).lanes ≤ length s.targets
      short true beyond =
          let outside : n < p = ltb-true _ _ beyond in
          let none = ap (λ (source : Source). length source.lanes) (get_or_past s.sources p no_source (omega (arith, shaped.sources))) in
          omega arith
      short false not_beyond = let inside : p ≤ n = ltb-false _ _ not_beyond in let wide = shaped.lanes p inside in omega (arith, shaped.targets)

  pub up_is_enabled : (event : Event) → is_up n ready event ≡ is_enabled job s event
  up_is_enabled (Read from) = ap (λ flags. get_or flags (place n from) false) right.reads ∙ get_or-map_default (can_read_first job) s.sources (place n from) no_source
  up_is_enabled (Flush from to) =
      ap (λ grid. get_or (get_or grid (place n from) []) (place n to) false) right.flushes
      ∙ ap (λ row. get_or row (place n to) false) (get_or-map_default flush_row s.sources (place n from) no_source)
      ∙ get_or-map_default can_flush (source_at (place n from) s).lanes (place n to) no_lane
  up_is_enabled (Deliver from to) =
      ap (λ grid. get_or (get_or grid (place n from) []) (place n to) false) right.delivers ∙ deliver_rows-at (place n from) (place n to)
  up_is_enabled (Copy to) = ap (λ flags. get_or flags (place n to) false) right.copies ∙ get_or-map_default can_copy s.targets (place n to) no_target
