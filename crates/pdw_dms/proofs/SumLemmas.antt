-- All packets are those of the pairs of nodes together.
use Rattle.std.proofs.Common.{◌≡◌, ℕ, zero, suc, ◌+◌, ◌<◌, ◌≤◌, ◌&&◌, ◌==◌, nat_lt, Bool, true, false, if◌then◌else◌, List, [], ◌∷◌, ◌++◌, refl, sym, ap, ◌∙◌, arith, ltb-false, eqb-true, eq-eqb}
use Rattle.std.proofs.lemmas.Bool.{ltb-true}
use Rattle.std.specs.List.{count_by}
use Rattle.pdw_base.specs.SameBag.{weigh}
use Rattle.pdw_base.proofs.SameBagLaws.{weigh-append}
use Rattle.pdw_base.specs.declared.node.Node.{Node}
use Rattle.pdw_base.specs.declared.node.Node.TheVariants as node
use Rattle.pdw_move.specs.Move.{is_same_node}
use Rattle.pdw_move.specs.Placed.{all_nodes, compute_nodes}
use Rattle.pdw_machine.specs.declared.event.Event.{Event}
use Rattle.pdw_machine.specs.declared.event.Event.TheVariants.{Read, Flush, Deliver, Copy}
use Rattle.pdw_machine.specs.Events.{IsRun}
use Rattle.pdw_machine.specs.Machine.{IsShaped, Job, State, place, step}
use Rattle.pdw_machine.proofs.ShapeLemmas.{flush_inside}
use Rattle.pdw_dms.specs.Ends.{is_flush, is_flush_between}
use Rattle.pdw_dms.specs.Moved.{IsThere}
use Rattle.pdw_dms.proofs.CountLemmas.{count_by-cons, one-cond, one_if}
use Rattle.pdw_dms.proofs.TransferLemmas.{step-shaped}

module _ {X : Type 0} where
  weigh-plus : (f g : X → ℕ) (xs : List X) → weigh (λ x. f x + g x) xs ≡ weigh f xs + weigh g xs
  weigh-plus f g [] = refl
  weigh-plus f g (x ∷ xs) = let rest = weigh-plus f g xs in omega arith

  weigh-zero : (xs : List X) → weigh (λ x. 0) xs ≡ 0
  weigh-zero [] = refl
  weigh-zero (x ∷ xs) = let rest = weigh-zero xs in omega arith

-- ---- a node stands once among all

other-number : (k m : ℕ) → (k ≡ m → ⊥) → one_if (k == m) ≡ 0
other-number k m differ = by (k == m) refl
  where
    by : (b : Bool) → (k == m) ≡ b → one_if b ≡ 0
    by true same = absurd (differ (eqb-true k m same))
    by false other = refl

not_among : (k m : ℕ) → m ≤ k → weigh (λ x. one_if (is_same_node (node.Compute k) x)) (compute_nodes m) ≡ 0
not_among k zero beyond = refl
not_among k (suc m) beyond =
    let all = weigh-append (λ x. one_if (is_same_node (node.Compute k) x)) (compute_nodes m) (node.Compute m ∷ []) in
    let rest = not_among k m (omega arith) in
    let last = other-number k m (λ e. absurd (omega arith)) in
    omega arith

among : (k m : ℕ) → k < m → weigh (λ x. one_if (is_same_node (node.Compute k) x)) (compute_nodes m) ≡ 1
among k zero within = absurd (omega arith)
among k (suc m) within = by (nat_lt k m) refl (λ less. among k m less)
  where
    by : (b : Bool) → nat_lt k m ≡ b → (k < m → weigh (λ x. one_if (is_same_node (node.Compute k) x)) (compute_nodes m) ≡ 1)
        → weigh (λ x. one_if (is_same_node (node.Compute k) x)) (compute_nodes m ++ node.Compute m ∷ []) ≡ 1
    by true e before =
        let less : k < m = ltb-true _ _ e in
        let all = weigh-append (λ x. one_if (is_same_node (node.Compute k) x)) (compute_nodes m) (node.Compute m ∷ []) in
        let rest = before less in
        let last = other-number k m (λ same. absurd (omega arith)) in
        omega arith
    by false e before =
        let beyond : m ≤ k = ltb-false _ _ e in
        let all = weigh-append (λ x. one_if (is_same_node (node.Compute k) x)) (compute_nodes m) (node.Compute m ∷ []) in
        let rest = not_among k m beyond in
        let last = ap one_if (eq-eqb k m (omega arith)) in
        omega arith

control_not_among : (m : ℕ) → weigh (λ x. one_if (is_same_node node.Control x)) (compute_nodes m) ≡ 0
control_not_among zero = refl
control_not_among (suc m) =
    let all = weigh-append (λ x. one_if (is_same_node node.Control x)) (compute_nodes m) (node.Compute m ∷ []) in
    let rest = control_not_among m in
    omega arith

once : (n : ℕ) (a : Node) → IsThere n a → weigh (λ x. one_if (is_same_node a x)) (all_nodes n) ≡ 1
once n (node.Compute k) there =
    let all = weigh-append (λ x. one_if (is_same_node (node.Compute k) x)) (compute_nodes n) (node.Control ∷ []) in
    let one = among k n there in
    omega arith
once n node.Control there =
    let all = weigh-append (λ x. one_if (is_same_node node.Control x)) (compute_nodes n) (node.Control ∷ []) in
    let none = control_not_among n in
    omega arith

inside-there : (n : ℕ) (a : Node) → place n a ≤ n → IsThere n a
inside-there n (node.Compute k) inside = by (nat_lt k n) refl inside
  where
    by : (b : Bool) → nat_lt k n ≡ b → (if b then k else suc k) ≤ n → k < n
    by true e within = ltb-true _ _ e
    by false e within = let beyond : n ≤ k = ltb-false _ _ e in absurd (omega arith)
inside-there n node.Control inside = _

-- ---- pairs

module _ (n : ℕ) where
  abbrev over_pairs : (Node → Node → ℕ) → ℕ
  over_pairs f = weigh (λ from. weigh (λ to. f from to) (all_nodes n)) (all_nodes n)

  over_pairs-plus : (f g : Node → Node → ℕ) → over_pairs (λ from to. f from to + g from to) ≡ over_pairs f + over_pairs g
  over_pairs-plus f g =
      (λ i. weigh (λ from. weigh-plus (f from) (g from) (all_nodes n) i) (all_nodes n))
      ∙ weigh-plus (λ from. weigh (f from) (all_nodes n)) (λ from. weigh (g from) (all_nodes n)) (all_nodes n)

  over_pairs-zero : over_pairs (λ from to. 0) ≡ 0
  over_pairs-zero = (λ i. weigh (λ (from : Node). weigh-zero (all_nodes n) i) (all_nodes n)) ∙ weigh-zero (all_nodes n)

  second : (x : Bool) (b : Node) → IsThere n b → weigh (λ to. one_if (x && is_same_node b to)) (all_nodes n) ≡ one_if x
  second true b there = once n b there
  second false b there = weigh-zero (all_nodes n)

  pair-once : (a b : Node) → IsThere n a → IsThere n b → over_pairs (λ from to. one_if (is_same_node a from && is_same_node b to)) ≡ 1
  pair-once a b there there_to = (λ i. weigh (λ from. second (is_same_node a from) b there_to i) (all_nodes n)) ∙ once n a there

  -- a flush is of one pair
  abbrev NamesThere : Event → Type 0
  NamesThere (Read a) = Unit {0}
  NamesThere (Flush a b) = IsThere n a × IsThere n b
  NamesThere (Deliver a b) = Unit {0}
  NamesThere (Copy b) = Unit {0}

  one-pair : (event : Event) → NamesThere event → over_pairs (λ from to. one_if (is_flush_between from to event)) ≡ one_if (is_flush event)
  one-pair (Read a) there = over_pairs-zero
  one-pair (Flush a b) there = pair-once a b there.0 there.1
  one-pair (Deliver a b) there = over_pairs-zero
  one-pair (Copy b) there = over_pairs-zero

names-there : (job : Job) (s : State) (event : Event) → IsShaped job.nodes s → IsRun job s (event ∷ []) → NamesThere job.nodes event
names-there job s (Read a) shaped run = _
names-there job s (Flush a b) shaped run =
    let inside = flush_inside job.nodes s shaped (place job.nodes a) (place job.nodes b) run.0 in
    (inside-there job.nodes a inside.0, inside-there job.nodes b inside.1)
names-there job s (Deliver a b) shaped run = _
names-there job s (Copy b) shaped run = _

pub run-pairs : (job : Job) (events : List Event) (s : State) → IsShaped job.nodes s → IsRun job s events
    → count_by is_flush events ≡ weigh (λ from. weigh (λ to. count_by (is_flush_between from to) events) (all_nodes job.nodes)) (all_nodes job.nodes)
run-pairs job [] s shaped run = sym (over_pairs-zero job.nodes)
run-pairs job (event ∷ events) s shaped run =
    let n = job.nodes in
    let rest = run-pairs job events (step job event s) (step-shaped job s event shaped run.0) run.1 in
    count_by-cons is_flush event events
    ∙ (λ i. (one-cond (is_flush event) ∙ sym (one-pair n event (names-there job s event shaped (run.0, _)))) i + rest i)
    ∙ sym (over_pairs-plus n (λ from to. one_if (is_flush_between from to event)) (λ from to. count_by (is_flush_between from to) events))
    ∙ (λ i. weigh (λ from. weigh (λ to. (sym (count_by-cons (is_flush_between from to) event events ∙ ap (λ m. m + count_by (is_flush_between from to) events) (one-cond (is_flush_between from to event)))) i) (all_nodes n)) (all_nodes n))
