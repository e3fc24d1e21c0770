-- There is one verdict: what is in order has no fault, and the first fault has one place and its numbers.
use Rattle.std.proofs.Common.{◌≡◌, ◌≤◌, ◌++◌, ℕ, List, [], ◌∷◌, Option, Some, None, Result, Ok, Err, refl, sym, ap, subst, ◌∙◌, arith}
use Rattle.std.specs.List.{AllByRecursion, slice_get}
use Rattle.std.specs.Option.{option_and_then}
use Rattle.pdw_cert.proofs.ShapeLemmas.{none-of-shape}
use Rattle.pdw_cert.specs.Shape.{root_of}
use Rattle.pdw_cert.specs.TooHigh.{Exceeds, IsFine, IsFirstTooHigh, IsLeastSum, all_made}
use Rattle.pdw_cert.specs.Verdict.{IsAccepted, IsBounded, IsFault, IsForQuery, IsPriced, IsShaped, IsVerdict}
use Rattle.pdw_cert.specs.declared.high.TooHigh.{TooHigh}
use Rattle.pdw_groups.specs.declared.group.Group.{Group}
use Rattle.pdw_move.specs.declared.kinds.Prop.{Prop}
use Rattle.pdw_ways.proofs.LeastCosts.{none-cheaper}
use Rattle.pdw_ways.specs.Bounds.{AtMost, Bound, NoneCheaper, bound_in, least_in}
use Rattle.pdw_ways.specs.Ways.{Costs}
use Rattle.pdw_ways.specs.declared.made.Made.{Made}
use Rattle.pdw_ways.specs.declared.plan.CheckFault.{CheckFault}
use Rattle.pdw_ways.specs.declared.plan.CheckFault.TheVariants as fault
use Rattle.pdw_ways.specs.declared.plan.Plan.{Plan}

-- ---- the first that does not hold

pub first-is-one : {X : Type 0} (P : X → Type 0) (xs ys us vs : List X) (x y : X) → xs ++ x ∷ us ≡ ys ++ y ∷ vs → AllByRecursion P xs → AllByRecursion P ys → (P x → ⊥) → (P y → ⊥) → x ≡ y
first-is-one P [] [] us vs x y same first second neither other = cc
first-is-one P [] (z ∷ ys) us vs x y same first second neither other = let head : x ≡ z = cc in absurd (neither (subst P (sym head) second.0))
first-is-one P (z ∷ xs) [] us vs x y same first second neither other = let head : z ≡ y = cc in absurd (other (subst P head first.0))
first-is-one P (z ∷ xs) (w ∷ ys) us vs x y same first second neither other = let rest : xs ++ x ∷ us ≡ ys ++ y ∷ vs = cc in first-is-one P xs ys us vs x y rest first.1 second.1 neither other

module _ (groups : List Group) (costs : Costs) (bound : Bound) where
  pub not-fine : (made : Made) (b : Option ℕ) (limit : ℕ) → bound made ≡ b → IsLeastSum groups costs bound made limit → Exceeds b limit → IsFine groups costs bound made → ⊥
  not-fine made b limit is sum exceeds fine = by b (subst (λ (low : Option ℕ). AtMost low (Some limit)) is (subst (AtMost (bound made)) sum.sum (fine sum.group sum.way sum.there sum.allowed))) exceeds
    where
      by : (b : Option ℕ) → AtMost b (Some limit) → Exceeds b limit → ⊥
      by None within exceeds = within
      by (Some b) within exceeds = omega arith

  one-limit : (made : Made) (limit other : ℕ) → IsLeastSum groups costs bound made limit → IsLeastSum groups costs bound made other → limit ≡ other
  one-limit made limit other first second =
      let below : limit ≤ other = subst (AtMost (Some limit)) second.sum (first.least second.group second.way second.there second.allowed) in
      let above : other ≤ limit = subst (AtMost (Some other)) first.sum (second.least first.group first.way first.there first.allowed) in
      omega arith

  module _ (all : List Made) (high other : TooHigh) (first : IsFirstTooHigh groups costs bound all high) (second : IsFirstTooHigh groups costs bound all other) where
    pub one-made : high.made ≡ other.made
    one-made = first-is-one (IsFine groups costs bound) first.before second.before first.after second.after high.made other.made (sym first.order ∙ second.order) first.fine second.fine
        (not-fine high.made high.bound high.limit first.bound first.limit first.exceeds) (not-fine other.made other.bound other.limit second.bound second.limit second.exceeds)

    pub one-bound : high.bound ≡ other.bound
    one-bound = sym first.bound ∙ ap bound one-made ∙ second.bound

    pub one-least : high.limit ≡ other.limit
    one-least = one-limit other.made high.limit other.limit (subst (λ (made : Made). IsLeastSum groups costs bound made high.limit) one-made first.limit) second.limit

-- ---- one verdict

module _ (groups : List Group) (costs : Costs) (plan : Plan) (written : ℕ) (lists : List (List (Option ℕ))) where
  abbrev Query : Type 0
  Query = IsForQuery groups costs plan written lists

  abbrev Priced : Type 0
  Priced = IsPriced groups costs plan written lists

  abbrev Shaped : Type 0
  Shaped = IsShaped groups costs plan written lists

  abbrev Bounded : Type 0
  Bounded = IsBounded groups costs plan written lists

  abbrev Fault : CheckFault → Type 0
  Fault = IsFault groups costs plan written lists

  no-shape : {A : Type 0} (node : ℕ) → Fault (fault.PlanShape node) → Query → A
  no-shape node is query = let wrong : Some node ≡ None = sym is ∙ query in absurd (cc)

  no-cost : {A : Type 0} (cost computed : ℕ) → Fault (fault.WrongCost cost computed) → Priced → A
  no-cost cost computed is priced = absurd (is.1.1.1 (sym is.1.1.0 ∙ priced.1))

  no-lists : {A : Type 0} (group : ℕ) → Fault (fault.BoundShape group) → Shaped → A
  no-lists group is shaped = let wrong : Some group ≡ None = sym is.1 ∙ none-of-shape groups lists shaped.1 in absurd (cc)

  no-bounds : {A : Type 0} (group : ℕ) (prop : Prop) (bound : Option ℕ) (limit : ℕ) → Fault (fault.BoundTooHigh group prop bound limit) → Bounded → A
  no-bounds group prop bound limit is bounded =
      let made : Made = record { group = record { 0 = group }; prop = prop } in
      absurd (not-fine groups costs (bound_in groups lists) made bound limit is.1.bound is.1.limit is.1.exceeds (bounded.1 made))

  no-root : {A : Type 0} (cost : ℕ) (bound : Option ℕ) → Fault (fault.NotTight cost bound) → (accepted : ℕ) → IsAccepted groups costs plan written lists accepted → A
  no-root cost bound is accepted tight = absurd (is.1.1.1 (sym is.1.1.0 ∙ tight.1.1 ∙ ap (λ (n : ℕ). Some n) (tight.1.0 ∙ sym is.1.0)))

  same-high : (group : ℕ) (prop : Prop) (bound : Option ℕ) (limit : ℕ) (group' : ℕ) (prop' : Prop) (bound' : Option ℕ) (limit' : ℕ) → Fault (fault.BoundTooHigh group prop bound limit) → Fault (fault.BoundTooHigh group' prop' bound' limit')
      → ◌≡◌ {A = Result ℕ CheckFault} (Err (fault.BoundTooHigh group prop bound limit)) (Err (fault.BoundTooHigh group' prop' bound' limit'))
  same-high group prop bound limit group' prop' bound' limit' a b =
      let high : TooHigh = record { made = record { group = record { 0 = group }; prop = prop }; bound = bound; limit = limit } in
      let other : TooHigh = record { made = record { group = record { 0 = group' }; prop = prop' }; bound = bound'; limit = limit' } in
      let made = one-made groups costs (bound_in groups lists) (all_made groups) high other a.1 b.1 in
      let numbers : group ≡ group' = ap (λ (m : Made). m.group.0) made in
      let props : prop ≡ prop' = ap (λ (m : Made). m.prop) made in
      let bounds : bound ≡ bound' = one-bound groups costs (bound_in groups lists) (all_made groups) high other a.1 b.1 in
      let limits : limit ≡ limit' = one-least groups costs (bound_in groups lists) (all_made groups) high other a.1 b.1 in
      cc

  pub one-verdict : (first second : Result ℕ CheckFault) → IsVerdict groups costs plan written lists first → IsVerdict groups costs plan written lists second → first ≡ second
  one-verdict (Err (fault.PlanShape a-node)) (Err (fault.PlanShape b-node)) a b = let same : Some a-node ≡ Some b-node = sym a ∙ b in cc
  one-verdict (Err (fault.PlanShape a-node)) (Err (fault.WrongCost b-cost b-computed)) a b = no-shape a-node a b.0
  one-verdict (Err (fault.PlanShape a-node)) (Err (fault.BoundShape b-group)) a b = no-shape a-node a b.0.0
  one-verdict (Err (fault.PlanShape a-node)) (Err (fault.BoundTooHigh b-group b-prop b-bound b-limit)) a b = no-shape a-node a b.0.0.0
  one-verdict (Err (fault.PlanShape a-node)) (Err (fault.NotTight b-cost b-bound)) a b = no-shape a-node a b.0.0.0.0
  one-verdict (Err (fault.PlanShape a-node)) (Ok b-accepted) a b = no-shape a-node a b.0.0.0.0
  one-verdict (Err (fault.WrongCost a-cost a-computed)) (Err (fault.PlanShape b-node)) a b = no-shape b-node b a.0
  one-verdict (Err (fault.WrongCost a-cost a-computed)) (Err (fault.WrongCost b-cost b-computed)) a b = let same : a-computed ≡ b-computed = sym a.1.1.0 ∙ b.1.1.0 in let as_written : a-cost ≡ b-cost = a.1.0 ∙ sym b.1.0 in cc
  one-verdict (Err (fault.WrongCost a-cost a-computed)) (Err (fault.BoundShape b-group)) a b = no-cost a-cost a-computed a b.0
  one-verdict (Err (fault.WrongCost a-cost a-computed)) (Err (fault.BoundTooHigh b-group b-prop b-bound b-limit)) a b = no-cost a-cost a-computed a b.0.0
  one-verdict (Err (fault.WrongCost a-cost a-computed)) (Err (fault.NotTight b-cost b-bound)) a b = no-cost a-cost a-computed a b.0.0.0
  one-verdict (Err (fault.WrongCost a-cost a-computed)) (Ok b-accepted) a b = no-cost a-cost a-computed a b.0.0.0
  one-verdict (Err (fault.BoundShape a-group)) (Err (fault.PlanShape b-node)) a b = no-shape b-node b a.0.0
  one-verdict (Err (fault.BoundShape a-group)) (Err (fault.WrongCost b-cost b-computed)) a b = no-cost b-cost b-computed b a.0
  one-verdict (Err (fault.BoundShape a-group)) (Err (fault.BoundShape b-group)) a b = let same : Some a-group ≡ Some b-group = sym a.1 ∙ b.1 in cc
  one-verdict (Err (fault.BoundShape a-group)) (Err (fault.BoundTooHigh b-group b-prop b-bound b-limit)) a b = no-lists a-group a b.0
  one-verdict (Err (fault.BoundShape a-group)) (Err (fault.NotTight b-cost b-bound)) a b = no-lists a-group a b.0.0
  one-verdict (Err (fault.BoundShape a-group)) (Ok b-accepted) a b = no-lists a-group a b.0.0
  one-verdict (Err (fault.BoundTooHigh a-group a-prop a-bound a-limit)) (Err (fault.PlanShape b-node)) a b = no-shape b-node b a.0.0.0
  one-verdict (Err (fault.BoundTooHigh a-group a-prop a-bound a-limit)) (Err (fault.WrongCost b-cost b-computed)) a b = no-cost b-cost b-computed b a.0.0
  one-verdict (Err (fault.BoundTooHigh a-group a-prop a-bound a-limit)) (Err (fault.BoundShape b-group)) a b = no-lists b-group b a.0
  one-verdict (Err (fault.BoundTooHigh a-group a-prop a-bound a-limit)) (Err (fault.BoundTooHigh b-group b-prop b-bound b-limit)) a b = same-high a-group a-prop a-bound a-limit b-group b-prop b-bound b-limit a b
  one-verdict (Err (fault.BoundTooHigh a-group a-prop a-bound a-limit)) (Err (fault.NotTight b-cost b-bound)) a b = no-bounds a-group a-prop a-bound a-limit a b.0
  one-verdict (Err (fault.BoundTooHigh a-group a-prop a-bound a-limit)) (Ok b-accepted) a b = no-bounds a-group a-prop a-bound a-limit a b.0
  one-verdict (Err (fault.NotTight a-cost a-bound)) (Err (fault.PlanShape b-node)) a b = no-shape b-node b a.0.0.0.0
  one-verdict (Err (fault.NotTight a-cost a-bound)) (Err (fault.WrongCost b-cost b-computed)) a b = no-cost b-cost b-computed b a.0.0.0
  one-verdict (Err (fault.NotTight a-cost a-bound)) (Err (fault.BoundShape b-group)) a b = no-lists b-group b a.0.0
  one-verdict (Err (fault.NotTight a-cost a-bound)) (Err (fault.BoundTooHigh b-group b-prop b-bound b-limit)) a b = no-bounds b-group b-prop b-bound b-limit b a.0
  one-verdict (Err (fault.NotTight a-cost a-bound)) (Err (fault.NotTight b-cost b-bound)) a b = let same : a-bound ≡ b-bound = sym a.1.1.0 ∙ b.1.1.0 in let as_written : a-cost ≡ b-cost = a.1.0 ∙ sym b.1.0 in cc
  one-verdict (Err (fault.NotTight a-cost a-bound)) (Ok b-accepted) a b = no-root a-cost a-bound a b-accepted b
  one-verdict (Ok a-accepted) (Err (fault.PlanShape b-node)) a b = no-shape b-node b a.0.0.0.0
  one-verdict (Ok a-accepted) (Err (fault.WrongCost b-cost b-computed)) a b = no-cost b-cost b-computed b a.0.0.0
  one-verdict (Ok a-accepted) (Err (fault.BoundShape b-group)) a b = no-lists b-group b a.0.0
  one-verdict (Ok a-accepted) (Err (fault.BoundTooHigh b-group b-prop b-bound b-limit)) a b = no-bounds b-group b-prop b-bound b-limit b a.0
  one-verdict (Ok a-accepted) (Err (fault.NotTight b-cost b-bound)) a b = no-root b-cost b-bound b a-accepted a
  one-verdict (Ok a-accepted) (Ok b-accepted) a b = let as_written : a-accepted ≡ b-accepted = a.1.0 ∙ sym b.1.0 in cc

-- ---- what is accepted costs least

-- the least of the root's bounds is the least of its list
root-list : (list : Option (List (Option ℕ))) (cost : ℕ) → option_and_then least_in list ≡ Some cost → (kept : List (Option ℕ)) × ((list ≡ Some kept) × (least_in kept ≡ Some cost))
root-list None cost none = absurd (cc)
root-list (Some list) cost is = (list, (refl, is))

pub accepted-is-least : (groups : List Group) (costs : Costs) (plan : Plan) (written : ℕ) (lists : List (List (Option ℕ))) (cost : ℕ) → IsAccepted groups costs plan written lists cost → NoneCheaper groups costs (root_of groups) cost
accepted-is-least groups costs plan written lists cost is =
    let kept = root-list (slice_get lists (root_of groups).0) cost is.1.1 in
    none-cheaper groups costs lists is.0.1 (root_of groups) kept.0 cost kept.1.0 kept.1.1
