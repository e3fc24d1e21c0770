-- Where no event is enabled nothing is unread, filled in, on a link or in an inbox.
use Rattle.std.proofs.Common.{◌≡◌, ℕ, zero, suc, ◌<◌, ◌≤◌, ◌&&◌, nat_lt, Bool, true, false, cond, if◌then◌else◌, List, [], ◌∷◌, ◌++◌, length, map, filter, take, get_or, refl, sym, ap, ◌∙◌, subst, arith, ltb-false}
use Rattle.std.proofs.lemmas.Bool.{ltb-true, lt-ltb}
use Rattle.std.specs.List.{flat_map, list_all}
use Rattle.std.proofs.lemmas.List.{append-nil, get_or-map, get_or_append_left, get_or_past, get_or_push, length-append, length-drop, length-map}
use Rattle.std.proofs.lemmas.List.Elements.{filter-append}
use Rattle.pdw_base.specs.declared.node.Node.{Node}
use Rattle.pdw_base.specs.declared.node.Node.TheVariants as node
use Rattle.pdw_move.specs.declared.kinds.Receivers.{Receivers}
use Rattle.pdw_move.specs.declared.kinds.Receivers.TheVariants.{Nobody, One, AllCompute}
use Rattle.pdw_move.specs.declared.placed.Placed.{Placed}
use Rattle.pdw_move.specs.Placed.{Row, all_nodes, rows_at}
use Rattle.pdw_machine.specs.declared.event.Event.{Event}
use Rattle.pdw_machine.specs.declared.event.Event.TheVariants.{Read, Flush, Deliver, Copy}
use Rattle.pdw_machine.specs.Events.{enabled_events}
use Rattle.pdw_machine.specs.Machine.{IsShaped, Job, Lane, State, Target, all_written, copy_enabled, deliver_enabled, flush_enabled, goes, has_room, have_room, is_enabled, lane_at, next_receivers, no_lane, no_source, no_target, place, read_enabled, rows_in, source_at, target_at, unread}
use Rattle.pdw_machine.specs.Ready.{node_at}
use Rattle.pdw_machine.proofs.EventLemmas.{get_or-all_nodes}
use Rattle.pdw_machine.proofs.StartLemmas.{length-all_nodes}
use Rattle.pdw_dms.specs.Moved.{IsIdle, IsThere, all_for, on_the_way}
use Rattle.pdw_dms.proofs.MovedLemmas.{there-inside}

-- ---- lists of which nothing passes

both-nil : {X : Type 0} (xs ys : List X) → xs ++ ys ≡ [] → (xs ≡ []) × (ys ≡ [])
both-nil [] ys none = (refl, none)
both-nil (x ∷ xs) ys none = cc

length-nil : {X : Type 0} (xs : List X) → nat_lt 0 (length xs) ≡ false → xs ≡ []
length-nil [] none = refl
length-nil (x ∷ xs) none = let short = ltb-false _ _ none in absurd (omega arith)

module _ {X : Type 0} (test : X → Bool) where
  fails-at : (xs : List X) (k : ℕ) (d : X) → filter test xs ≡ [] → k < length xs → test (get_or xs k d) ≡ false
  fails-at [] k d none less = absurd (omega arith)
  fails-at (x ∷ xs) k d none less = by (test x) refl k none less (λ m rest fewer. fails-at xs m d rest fewer)
    where
      by : (b : Bool) → test x ≡ b → (m : ℕ) → cond b (x ∷ filter test xs) (filter test xs) ≡ [] → m < length (x ∷ xs)
          → ((j : ℕ) → filter test xs ≡ [] → j < length xs → test (get_or xs j d) ≡ false) → test (get_or (x ∷ xs) m d) ≡ false
      by true own m nothing fewer rest = cc
      by false own zero nothing fewer rest = own
      by false own (suc m) nothing fewer rest = rest m nothing (omega arith)

  row-nil : {I : Type 0} (row : I → List X) (is : List I) (k : ℕ) (e : I) → filter test (flat_map row is) ≡ [] → k < length is → filter test (row (get_or is k e)) ≡ []
  row-nil row [] k e none less = absurd (omega arith)
  row-nil row (i ∷ is) k e none less = by k less (both-nil (filter test (row i)) (filter test (flat_map row is)) (sym (filter-append test (row i) (flat_map row is)) ∙ none)) (λ m fewer rest. row-nil row is m e rest fewer)
    where
      by : (m : ℕ) → m < length (i ∷ is) → (filter test (row i) ≡ []) × (filter test (flat_map row is) ≡ [])
          → ((j : ℕ) → j < length is → filter test (flat_map row is) ≡ [] → filter test (row (get_or is j e)) ≡ []) → filter test (row (get_or (i ∷ is) m e)) ≡ []
      by zero fewer parts rest = parts.0
      by (suc m) fewer parts rest = rest m (omega arith) parts.1

flat_map-nil : {X Y : Type 0} (f : X → List Y) (xs : List X) (d : X) → ((k : ℕ) → k < length xs → f (get_or xs k d) ≡ []) → flat_map f xs ≡ []
flat_map-nil f [] d none = refl
flat_map-nil f (x ∷ xs) d none =
    (λ i. none 0 (omega arith) i ++ flat_map-nil f xs d (λ k less. none (suc k) (omega arith)) i)

all-room : (lanes : List Lane) (m : ℕ) → ((q : ℕ) → has_room (lane_at q lanes) ≡ true) → list_all has_room (take m lanes) ≡ true
all-room lanes zero room = refl
all-room [] (suc m) room = refl
all-room (lane ∷ lanes) (suc m) room = (λ i. room 0 i && all-room lanes m (λ q. room (suc q)) i)

place-node_at : (n p : ℕ) → p ≤ n → place n (node_at n p) ≡ p
place-node_at n p within = by (nat_lt p n) refl
  where
    by : (b : Bool) → nat_lt p n ≡ b → place n (if b then node.Compute p else node.Control) ≡ p
    by true inside = ap (λ c. if c then p else suc p) inside
    by false outside = let beyond : n ≤ p = ltb-false _ _ outside in omega arith

-- of two tests of which one holds, the other fails where both together fail
first-fails : (a b : Bool) → b ≡ true → a && b ≡ false → a ≡ false
first-fails true true holds fails = fails
first-fails true false holds fails = cc
first-fails false b holds fails = refl

module _ (job : Job) (s : State) (shaped : IsShaped job.nodes s) (none : enabled_events job s ≡ []) where
  abbrev nodes : List Node
  nodes = all_nodes job.nodes

  abbrev test : Event → Bool
  test = is_enabled job s

  parts-nil : (filter test (map (λ from. Read from) nodes) ≡ []) × (filter test (flat_map (λ from. map (λ to. Flush from to) nodes) nodes) ≡ [])
      × (filter test (flat_map (λ from. map (λ to. Deliver from to) nodes) nodes) ≡ []) × (filter test (map (λ to. Copy to) nodes) ≡ [])
  parts-nil =
      let reads = map (λ from. Read from) nodes in
      let flushes = flat_map (λ from. map (λ to. Flush from to) nodes) nodes in
      let delivers = flat_map (λ from. map (λ to. Deliver from to) nodes) nodes in
      let copies = map (λ to. Copy to) nodes in
      let first = both-nil (filter test reads) (filter test (flushes ++ (delivers ++ copies))) (sym (filter-append test reads (flushes ++ (delivers ++ copies))) ∙ none) in
      let second = both-nil (filter test flushes) (filter test (delivers ++ copies)) (sym (filter-append test flushes (delivers ++ copies)) ∙ first.1) in
      let third = both-nil (filter test delivers) (filter test copies) (sym (filter-append test delivers copies) ∙ second.1) in
      (first.0, second.0, third.0, third.1)

  one-off : (event : Node → Event) → filter test (map event nodes) ≡ [] → (p : ℕ) → p ≤ job.nodes → test (event (node_at job.nodes p)) ≡ false
  one-off event off p inside =
      let long = length-all_nodes job.nodes in
      let all = length-map nodes event in
      ap (λ e. test e) (sym (get_or-map event nodes p node.Control (event node.Control) (omega arith) ∙ ap event (get_or-all_nodes job.nodes p node.Control (omega arith))))
      ∙ fails-at test (map event nodes) p (event node.Control) off (omega arith)

  two-off : (event : Node → Node → Event) → filter test (flat_map (λ from. map (λ to. event from to) nodes) nodes) ≡ [] → (p q : ℕ) → p ≤ job.nodes → q ≤ job.nodes
      → test (event (node_at job.nodes p) (node_at job.nodes q)) ≡ false
  two-off event off p q inside inside_to =
      let long = length-all_nodes job.nodes in
      one-off (event (node_at job.nodes p))
      (subst (λ from. filter test (map (event from) nodes) ≡ []) (get_or-all_nodes job.nodes p node.Control (omega arith))
      (row-nil test (λ from. map (λ to. event from to) nodes) nodes p node.Control off (omega arith)))
      q inside_to

  pub inbox-nil : (q : ℕ) → q ≤ job.nodes → (target_at q s).inbox ≡ []
  inbox-nil q inside =
      length-nil (target_at q s).inbox (ap (λ k. copy_enabled k s) (sym (place-node_at job.nodes q inside)) ∙ one-off (λ to. Copy to) parts-nil.3 q inside)

  pub link-nil : (p q : ℕ) → p ≤ job.nodes → q ≤ job.nodes → (lane_at q (source_at p s).lanes).link ≡ []
  link-nil p q inside inside_to =
      let off = (λ i. deliver_enabled (sym (place-node_at job.nodes p inside) i) (sym (place-node_at job.nodes q inside_to) i) s) ∙ two-off (λ from to. Deliver from to) parts-nil.2 p q inside inside_to in
      length-nil (lane_at q (source_at p s).lanes).link
      (first-fails _ _ (ap (λ inbox. nat_lt (length inbox) 4) (inbox-nil q inside_to)) off)

  pub filling-nil : (p q : ℕ) → p ≤ job.nodes → q ≤ job.nodes → (lane_at q (source_at p s).lanes).filling ≡ []
  filling-nil p q inside inside_to =
      let off = (λ i. flush_enabled (sym (place-node_at job.nodes p inside) i) (sym (place-node_at job.nodes q inside_to) i) s) ∙ two-off (λ from to. Flush from to) parts-nil.1 p q inside inside_to in
      length-nil (lane_at q (source_at p s).lanes).filling
      (first-fails _ _ (ap (λ link. nat_lt (length link) 4) (link-nil p q inside inside_to)) off)

  room : (p q : ℕ) → p ≤ job.nodes → has_room (lane_at q (source_at p s).lanes) ≡ true
  room p q inside = by (nat_lt job.nodes q) refl
    where
      by : (b : Bool) → nat_lt job.nodes q ≡ b → has_room (lane_at q (source_at p s).lanes) ≡ true
      by true beyond =
          let outside : job.nodes < q = ltb-true _ _ beyond in
          let wide = shaped.lanes p inside in
          ap has_room (get_or_past (source_at p s).lanes q no_lane (omega arith))
      by false within = ap (λ filling. nat_lt (length filling) 64) (filling-nil p q inside (ltb-false _ _ within))

  room-all : (p : ℕ) (next : Receivers) → p ≤ job.nodes → have_room job.nodes next (source_at p s).lanes ≡ true
  room-all p Nobody inside = refl
  room-all p (One to) inside = room p (place job.nodes to) inside
  room-all p AllCompute inside = all-room (source_at p s).lanes job.nodes (λ q. room p q inside)

  pub unread-nil : (p : ℕ) → p ≤ job.nodes → unread (source_at p s) ≡ []
  unread-nil p inside =
      let source = source_at p s in
      let off = ap (λ k. read_enabled job k s) (sym (place-node_at job.nodes p inside)) ∙ one-off (λ from. Read from) parts-nil.0 p inside in
      let done = ltb-false _ _ (first-fails _ _ (room-all p (next_receivers job source) inside) off) in
      let long = length-drop source.count source.rows in
      no_length (unread source) (omega arith)
    where
      no_length : (rows : List Row) → length rows ≡ 0 → rows ≡ []
      no_length [] short = refl
      no_length (row ∷ rows) short = absurd (omega arith)

  way-nil : (to : Node) → IsThere job.nodes to → (p : ℕ) → p ≤ job.nodes → on_the_way job to (source_at p s) ≡ []
  way-nil to there p inside =
      let inside_to = there-inside job.nodes to there in
      (λ i. rows_in (link-nil p (place job.nodes to) inside inside_to i)
      ++ (filling-nil p (place job.nodes to) inside inside_to i ++ filter (goes job (source_at p s).node to) (unread-nil p inside i)))

  -- all rows are written
  pub all-written : (to : Node) → IsThere job.nodes to → all_for job s to ≡ (target_at (place job.nodes to) s).written
  all-written to there =
      let target = target_at (place job.nodes to) s in
      (λ i. target.written ++ (rows_in (inbox-nil (place job.nodes to) (there-inside job.nodes to there) i)
      ++ flat_map-nil (on_the_way job to) s.sources no_source (λ p less. way-nil to there p (omega (arith, shaped.sources))) i))
      ∙ append-nil target.written

-- in the words of the contract
pub idle : (job : Job) (s : State) → IsShaped job.nodes s → enabled_events job s ≡ [] → IsIdle job.nodes s
idle job s shaped none =
    let n = job.nodes in
    record {
      unread = λ from there. unread-nil job s shaped none (place n from) (there-inside n from there);
      filling = λ from to there there_to. filling-nil job s shaped none (place n from) (place n to) (there-inside n from there) (there-inside n to there_to);
      link = λ from to there there_to. link-nil job s shaped none (place n from) (place n to) (there-inside n from there) (there-inside n to there_to);
      inbox = λ to there. inbox-nil job s shaped none (place n to) (there-inside n to there);
    }

-- the written rows as they are handed out
pub rows_at-written : (n : ℕ) (s : State) (placed : Placed) (to : Node) → IsShaped n s → IsThere n to → placed.nodes ++ placed.control ∷ [] ≡ all_written s
    → rows_at placed to ≡ (target_at (place n to) s).written
rows_at-written n s placed (node.Compute k) shaped there all =
    let written : Target → List Row = λ target. target.written in
    let long = length-append placed.nodes (placed.control ∷ []) in
    let same = ap length all in
    let targets = length-map s.targets written in
    sym (get_or_append_left placed.nodes (placed.control ∷ []) [] k (omega (arith, shaped.targets)))
    ∙ ap (λ xs. get_or xs k []) all
    ∙ get_or-map written s.targets k no_target [] (omega (arith, shaped.targets))
    ∙ ap (λ b. (target_at (if b then k else suc k) s).written) (sym (lt-ltb k n there))
rows_at-written n s placed node.Control shaped there all =
    let written : Target → List Row = λ target. target.written in
    let long = length-append placed.nodes (placed.control ∷ []) in
    let same = ap length all in
    let targets = length-map s.targets written in
    sym (get_or_push placed.nodes placed.control [] n (omega (arith, shaped.targets)))
    ∙ ap (λ xs. get_or xs n []) all
    ∙ get_or-map written s.targets n no_target [] (omega (arith, shaped.targets))
