-- The rows of a group cost at most three moves for each scan and operator of any plan for them: what an operator makes costs what
-- its children do, and from there moves lead to each property.
use Rattle.std.proofs.Common.{◌≡◌, ◌≤◌, ◌+◌, ◌*◌, ◌&&◌, ℕ, suc, Bool, true, List, [], ◌∷◌, map, sum, Option, Some, None, refl, sym, ap₂, subst, arith}
use Rattle.std.proofs.lemmas.Bool.{and_parts}
use Rattle.std.specs.List.{AllByRecursion, slice_get}
use Rattle.pdw_file_limits.proofs.Moves.{AreWithinOne, most_of_one}
use Rattle.pdw_file_limits.proofs.NodeKinds.{IsOneOrTwo, one-or-two}
use Rattle.pdw_groups.specs.declared.group.Group.{Group}
use Rattle.pdw_groups.specs.declared.key.GroupId.{GroupId}
use Rattle.pdw_least.specs.Runs.{operators, operators_step}
use Rattle.pdw_move.specs.Move.{property_after, property_before}
use Rattle.pdw_move.specs.declared.kinds.Move.{Move}
use Rattle.pdw_move.specs.declared.kinds.Move.TheVariants as move
use Rattle.pdw_move.specs.declared.kinds.Prop.{Prop}
use Rattle.pdw_move.specs.declared.kinds.Prop.TheVariants as prop
use Rattle.pdw_plan.proofs.WalkLemmas.{sum-cons}
use Rattle.pdw_rules.specs.Rules.{is_free, is_same, may_have}
use Rattle.pdw_ways.proofs.Numbers.{at_most-trans}
use Rattle.pdw_ways.proofs.PlanFolds.{Inductive, by_plans, fold-free, fold-moved, fold-op, fold-scan}
use Rattle.pdw_ways.proofs.Same.{never, same-alike, same-itself}
use Rattle.pdw_ways.proofs.Under.{Faultless, group-there, node-allowed}
use Rattle.pdw_ways.specs.Bounds.{AreLeast, AreValid, AtMost, Bound, IsLeast, plus}
use Rattle.pdw_ways.specs.Shape.{IsPlan, Shape, made_in, shape_of, shape_step}
use Rattle.pdw_ways.specs.Ways.{Costs, is_at, is_freed, is_moved, is_operated, is_scanned, is_way}
use Rattle.pdw_ways.specs.declared.made.Made.{Made}
use Rattle.pdw_ways.specs.declared.plan.Plan.{Plan}
use Rattle.pdw_ways.specs.declared.plan.Plan.TheOpen.{Plan-F}
use Rattle.pdw_ways.specs.declared.plan.Plan.TheVariants as plan
use Rattle.pdw_ways.specs.declared.way.Way.TheVariants as way

-- ---- numbers

weaker : (bound : Option ℕ) (low high : ℕ) → low ≤ high → AtMost bound (Some low) → AtMost bound (Some high)
weaker None low high le under = absurd under
weaker (Some bound) low high le under = omega arith

number-under : (bound : Option ℕ) (number limit : ℕ) → bound ≡ Some number → AtMost bound (Some limit) → number ≤ limit
number-under bound number limit is under = let inside : AtMost (Some number) (Some limit) = subst (λ (b : Option ℕ). AtMost b (Some limit)) is under in inside

over-one : (bound : Option ℕ) (cost more most : ℕ) → more ≤ most → AtMost bound (Some cost) → AtMost (plus (plus bound (Some 0)) (Some more)) (Some (cost + most))
over-one None cost more most few under = absurd under
over-one (Some bound) cost more most few under = omega arith

over-two : (left right : Option ℕ) (cost other : ℕ) → AtMost left (Some cost) → AtMost right (Some other) → AtMost (plus (plus left (plus right (Some 0))) (Some 0)) (Some (cost + other))
over-two None right cost other first second = absurd first
over-two (Some left) None cost other first second = absurd second
over-two (Some left) (Some right) cost other first second = omega arith

-- how much moves add at most to what an operator makes, to bring it to a property
abbrev reach : Prop → ℕ
reach prop.Spread = 2 * most_of_one
reach (prop.Hash c) = 2 * most_of_one
reach prop.Replicated = most_of_one
reach prop.Single = most_of_one
reach prop.Control = 3 * most_of_one

reach-most : (p : Prop) → reach p ≤ 3 * most_of_one
reach-most prop.Spread = omega arith
reach-most (prop.Hash c) = omega arith
reach-most prop.Replicated = omega arith
reach-most prop.Single = omega arith
reach-most prop.Control = omega arith

module _ (groups : List Group) (costs : Costs) (bound : Bound) (valid : AreValid groups costs bound) (cheap : AreWithinOne costs) where
  abbrev at : GroupId → Prop → Made
  at group p = record { group = group; prop = p }

  abbrev Within : GroupId → Prop → ℕ → Type 0
  Within group p cost = AtMost (bound (at group p)) (Some cost)

  -- ---- one move or free change

  module _ (group : GroupId) (of : Group) (there : slice_get groups group.0 ≡ Some of) where
    moved-within : (mv : Move) (cost : ℕ) → may_have of.interesting (property_after mv) ≡ true → Within group (property_before mv) cost → Within group (property_after mv) (cost + most_of_one)
    moved-within mv cost may under =
        let allows : is_way of (property_after mv) (way.Moved mv) ≡ true = rw (same-itself (property_after mv), same-itself (property_before mv)) may in
        at_most-trans (bound (at group (property_after mv))) _ (Some (cost + most_of_one)) (valid (at group (property_after mv)) of (way.Moved mv) there allows)
        (over-one (bound (at group (property_before mv))) cost (costs group mv) most_of_one (cheap group mv) under)

    freed-within : (before to : Prop) (cost : ℕ) → is_free before to ≡ true → may_have of.interesting to ≡ true → Within group before cost → Within group to cost
    freed-within before to cost free may under =
        let allows : is_way of to (way.Free before) ≡ true = ap₂ (λ (a b : Bool). a && b) free may in
        at_most-trans (bound (at group to)) _ (Some cost) (valid (at group to) of (way.Free before) there allows)
        (weaker _ (cost + 0) cost (omega arith) (over-one (bound (at group before)) cost 0 0 (omega arith) under))

    -- what stands under any property can be brought to each node
    whole-within : (p : Prop) (cost : ℕ) → Within group p cost → Within group prop.Replicated (cost + most_of_one)
    whole-within prop.Spread cost under = moved-within move.Broadcast cost refl under
    whole-within (prop.Hash c) cost under = moved-within move.Broadcast cost refl (freed-within (prop.Hash c) prop.Spread cost refl refl under)
    whole-within prop.Replicated cost under = weaker (bound (at group prop.Replicated)) cost (cost + most_of_one) (omega arith) under
    whole-within prop.Single cost under = moved-within move.FromSingle cost refl under
    whole-within prop.Control cost under = moved-within move.FromControl cost refl under

  -- ---- a run

  -- what an operator makes of a group costs little by a count of operators; from there its rows are brought to each node by one
  -- move, and to this property by a few
  pub record IsNear (count : ℕ) (group : GroupId) (p : Prop) : Type 0 where
    pub base : ℕ
    pub few : base + 3 * most_of_one ≤ 3 * most_of_one * count
    pub whole : Within group prop.Replicated (base + most_of_one)
    pub here : Within group p (base + reach p)

  near-bound : (count : ℕ) (group : GroupId) (p : Prop) → IsNear count group p → Within group p (3 * most_of_one * count)
  near-bound count group p near =
      let few = near.few in
      let most = reach-most p in
      weaker (bound (at group p)) (near.base + reach p) (3 * most_of_one * count) (omega (arith, few, most)) near.here

  module _ (count : ℕ) (group : GroupId) (of : Group) (there : slice_get groups group.0 ≡ Some of) where
    near-operator : (p : Prop) (base : ℕ) → base + 3 * most_of_one ≤ 3 * most_of_one * count → Within group p base → IsNear count group p
    near-operator p base few under = record {
      base = base;
      few = few;
      whole = whole-within group of there p base under;
      here = weaker (bound (at group p)) base (base + reach p) (omega arith) under;
    }

    near-moved : (mv : Move) → may_have of.interesting (property_after mv) ≡ true → IsNear count group (property_before mv) → IsNear count group (property_after mv)
    near-moved mv may near = record { base = near.base; few = near.few; whole = near.whole; here = by mv may near }
      where
        by : (mv : Move) → may_have of.interesting (property_after mv) ≡ true → (near : IsNear count group (property_before mv)) → Within group (property_after mv) (near.base + reach (property_after mv))
        by (move.Shuffle c) may near = weaker _ (near.base + most_of_one + most_of_one) (near.base + 2 * most_of_one) (omega arith) (moved-within group of there (move.Trim c) (near.base + most_of_one) may near.whole)
        by move.ToSingle may near = freed-within group of there prop.Replicated prop.Single (near.base + most_of_one) refl refl near.whole
        by move.ToControl may near = weaker _ (near.base + 2 * most_of_one + most_of_one) (near.base + 3 * most_of_one) (omega arith) (moved-within group of there move.ToControl (near.base + 2 * most_of_one) refl near.here)
        by move.Broadcast may near = near.whole
        by (move.Trim c) may near = weaker _ (near.base + most_of_one + most_of_one) (near.base + 2 * most_of_one) (omega arith) (moved-within group of there (move.Trim c) (near.base + most_of_one) may near.whole)
        by move.FromControl may near = near.whole
        by move.FromSingle may near = near.whole

    near-freed : (before to : Prop) → is_free before to ≡ true → may_have of.interesting to ≡ true → IsNear count group before → IsNear count group to
    near-freed before to free may near = record { base = near.base; few = near.few; whole = near.whole; here = by before to free may near }
      where
        by : (before to : Prop) → is_free before to ≡ true → may_have of.interesting to ≡ true → (near : IsNear count group before) → Within group to (near.base + reach to)
        by (prop.Hash c) prop.Spread free may near = freed-within group of there (prop.Hash c) prop.Spread (near.base + 2 * most_of_one) refl refl near.here
        by prop.Replicated prop.Single free may near = freed-within group of there prop.Replicated prop.Single (near.base + most_of_one) refl refl near.whole
        by _ _ free may near = never free

  -- ---- plans

  abbrev shape : Plan → Shape
  shape = shape_of groups costs

  abbrev AreNear : ℕ → Shape → Type 0
  AreNear count s = Faultless s → IsNear count s.made.group s.made.prop

  abbrev Holds : Plan → Type 0
  Holds p = AreNear (operators p) (shape p)

  scan-near : (group : GroupId) (p : Prop) → AreNear 1 (shape_step groups costs (Plan-F.Scan group p))
  scan-near group p none =
      let test : Group → Bool = λ of. is_scanned of p in
      let allowed = node-allowed [] (is_at groups group test) none in
      let there = group-there (slice_get groups group.0) test allowed.1 in
      near-operator 1 group there.0 there.1.0 p (0 + 0) (omega arith) (valid (at group p) there.0 way.Scan there.1.0 there.1.1)

  -- a child's rows
  child-within : (child : Plan) → Holds child → Faultless (shape child) → AtMost (bound (shape child).made) (Some (3 * most_of_one * operators child))
  child-within child holds none = near-bound (operators child) (shape child).made.group (shape child).made.prop (holds none)

  op-near : (group : GroupId) (p : Prop) (children : List Plan) → AllByRecursion Holds children → AreNear (suc (sum (map operators children))) (shape_step groups costs (Plan-F.Op group p (map shape children)))
  op-near group p children all none =
      let made = made_in (map shape children) in
      let test : Group → Bool = λ of. is_operated of made p in
      let allowed = node-allowed (map shape children) (is_at groups group test) none in
      let there = group-there (slice_get groups group.0) test allowed.1 in
      by there.0 there.1.0 children all allowed.0 there.1.1 (one-or-two there.0 made p there.1.1)
    where
      by : (of : Group) → slice_get groups group.0 ≡ Some of → (children : List Plan) → AllByRecursion Holds children → AllByRecursion Faultless (map shape children) → is_operated of (made_in (map shape children)) p ≡ true
          → IsOneOrTwo (made_in (map shape children)) → IsNear (suc (sum (map operators children))) group p
      by of there [] all none is count = absurd count
      by of there (only ∷ []) all none is count =
          let most = 3 * most_of_one * operators only in
          let total = sum-cons (operators only) [] in
          near-operator (suc (sum (operators only ∷ []))) group of there p (most + 0) (omega (arith, total))
          (at_most-trans (bound (at group p)) _ (Some (most + 0)) (valid (at group p) of (way.One (shape only).made) there is)
          (over-one (bound (shape only).made) most 0 0 (omega arith) (child-within only all.0 none.0)))
      by of there (left ∷ right ∷ []) all none is count =
          let first = 3 * most_of_one * operators left in
          let second = 3 * most_of_one * operators right in
          let total = sum-cons (operators left) (operators right ∷ []) in
          let rest = sum-cons (operators right) [] in
          near-operator (suc (sum (operators left ∷ operators right ∷ []))) group of there p (first + second) (omega (arith, total, rest))
          (at_most-trans (bound (at group p)) _ (Some (first + second)) (valid (at group p) of (way.Two (shape left).made (shape right).made) there is)
          (over-two (bound (shape left).made) (bound (shape right).made) first second (child-within left all.0 none.0) (child-within right all.1.0 none.1.0)))
      by of there (left ∷ right ∷ third ∷ more) all none is count = absurd count

  moved-near : (mv : Move) (count : ℕ) (s : Shape) → AreNear count s → AreNear count (shape_step groups costs (Plan-F.Moved mv s))
  moved-near mv count s near none =
      let test : Group → Bool = λ of. is_moved of mv s.made.prop in
      let allowed = node-allowed (s ∷ []) (is_at groups s.made.group test) none in
      let there = group-there (slice_get groups s.made.group.0) test allowed.1 in
      let parts = and_parts (is_same (property_before mv) s.made.prop) (may_have there.0.interesting (property_after mv)) there.1.1 in
      near-moved count s.made.group there.0 there.1.0 mv parts.1 (subst (IsNear count s.made.group) (sym (same-alike (property_before mv) s.made.prop parts.0)) (near allowed.0.0))

  freed-near : (to : Prop) (count : ℕ) (s : Shape) → AreNear count s → AreNear count (shape_step groups costs (Plan-F.Free to s))
  freed-near to count s near none =
      let test : Group → Bool = λ of. is_freed of s.made.prop to in
      let allowed = node-allowed (s ∷ []) (is_at groups s.made.group test) none in
      let there = group-there (slice_get groups s.made.group.0) test allowed.1 in
      let parts = and_parts (is_free s.made.prop to) (may_have there.0.interesting to) there.1.1 in
      near-freed count s.made.group there.0 there.1.0 s.made.prop to parts.0 parts.1 (near allowed.0.0)

  as-folds : (p : Plan) (count : ℕ) (s : Shape) → operators p ≡ count → shape p ≡ s → AreNear count s → Holds p
  as-folds p count s is shapes near = subst (λ (x : Shape). AreNear (operators p) x) (sym shapes) (subst (λ (n : ℕ). AreNear n s) (sym is) near)

  near-cases : Inductive Holds
  near-cases = record {
    scan = λ group p. as-folds (plan.Scan group p) _ _ (fold-scan operators_step group p) (fold-scan (shape_step groups costs) group p) (scan-near group p);
    op = λ group p children all. as-folds (plan.Op group p children) _ _ (fold-op operators_step group p children) (fold-op (shape_step groups costs) group p children) (op-near group p children all);
    moved = λ mv child near. as-folds (plan.Moved mv child) _ _ (fold-moved operators_step mv child) (fold-moved (shape_step groups costs) mv child) (moved-near mv (operators child) (shape child) near);
    free = λ to child near. as-folds (plan.Free to child) _ _ (fold-free operators_step to child) (fold-free (shape_step groups costs) to child) (freed-near to (operators child) (shape child) near);
  }

  -- a plan of some rows says what they cost at most, though it may cost more itself
  pub plan-within : (p : Plan) (made : Made) → IsPlan groups costs p made → AtMost (bound made) (Some (3 * most_of_one * operators p))
  plan-within p made is = subst (λ (m : Made). AtMost (bound m) (Some (3 * most_of_one * operators p))) is.makes (child-within p (by_plans Holds near-cases p) is.allowed)

  -- so each bound that is a number is at most three moves for each of the operators that all plans have at most
  pub least-within : AreLeast groups costs bound → (most : ℕ) → ((p : Plan) (made : Made) → IsPlan groups costs p made → operators p ≤ most) → (made : Made) (number : ℕ) → bound made ≡ Some number → number ≤ 3 * most_of_one * most
  least-within least most few made number is =
      let some : IsLeast groups costs made (Some number) = subst (IsLeast groups costs made) is (least made) in
      let p = some.0.0 in
      let under = number-under (bound made) number (3 * most_of_one * operators p) is (plan-within p made some.0.1.0) in
      let count = few p made some.0.1.0 in
      omega (arith, under, count)
