-- Valid bounds are at most what each plan costs: by induction over plans, a layer at a time.
use Rattle.std.proofs.Common.{◌≡◌, ◌&&◌, ◌+◌, ℕ, Bool, true, false, true≢false, List, [], ◌∷◌, map, Option, Some, None, refl, sym, ap, subst, ◌∙◌, arith, if◌then◌else◌}
use Rattle.std.proofs.lemmas.Bool.{and_parts}
use Rattle.std.specs.List.{AllByRecursion, list_any, slice_get}
use Rattle.std.specs.Option.{option_map, option_or}
use Rattle.pdw_groups.specs.declared.group.Expr.{Expr}
use Rattle.pdw_groups.specs.declared.group.Group.{Group}
use Rattle.pdw_groups.specs.declared.key.GroupId.{GroupId}
use Rattle.pdw_move.specs.Move.{property_after, property_before}
use Rattle.pdw_move.specs.declared.kinds.Move.{Move}
use Rattle.pdw_move.specs.declared.kinds.Prop.{Prop}
use Rattle.pdw_rules.specs.Rules.{is_same, may_have}
use Rattle.pdw_ways.proofs.Numbers.{at_most-trans}
use Rattle.pdw_ways.proofs.PlanFolds.{Inductive, by_plans, fold-free, fold-moved, fold-op, fold-scan}
use Rattle.pdw_ways.proofs.Same.{same-alike, same-itself}
use Rattle.pdw_ways.specs.Bounds.{AreValid, AtMost, Bound, cost_of_plan, plus}
use Rattle.pdw_ways.specs.Shape.{IsPlan, Shape, fault_after, fault_at, made_in, nodes_in, shape_of, shape_step}
use Rattle.pdw_ways.specs.Ways.{Costs, are_groups_of, is_at, is_at_some, is_freed, is_moved, is_operated, is_scanned, is_way, operates}
use Rattle.pdw_ways.specs.declared.made.Made.{Made}
use Rattle.pdw_ways.specs.declared.plan.Plan.{Plan}
use Rattle.pdw_ways.specs.declared.plan.Plan.TheOpen.{Plan-F}
use Rattle.pdw_ways.specs.declared.way.Way.TheVariants as way

-- ---- nodes without a fault

pub or-none : {A : Type 0} (first second : Option A) → option_or first second ≡ None → (first ≡ None) × (second ≡ None)
or-none None second none = (refl, none)
or-none (Some x) second none = absurd (cc)

map-none : {A B : Type 0} (f : A → B) (option : Option A) → option_map f option ≡ None → option ≡ None
map-none f None none = refl
map-none f (Some x) none = absurd (cc)

pub allowed-of : (test : Bool) (node : ℕ) → (if test then None else Some node) ≡ None → test ≡ true
allowed-of true node none = refl
allowed-of false node none = absurd (cc)

abbrev pub Faultless : Shape → Type 0
Faultless shape = shape.fault ≡ None

pub children-faultless : (before : ℕ) (shapes : List Shape) → fault_after before shapes ≡ None → AllByRecursion Faultless shapes
children-faultless before [] none = tt
children-faultless before (shape ∷ shapes) none =
    let parts = or-none (option_map (λ node. before + node) shape.fault) (fault_after (before + shape.nodes) shapes) none in
    (map-none (λ node. before + node) shape.fault parts.0, children-faultless (before + shape.nodes) shapes parts.1)

pub node-allowed : (shapes : List Shape) (test : Bool) → fault_at shapes test ≡ None → AllByRecursion Faultless shapes × (test ≡ true)
node-allowed shapes test none =
    let parts = or-none (fault_after 0 shapes) (if test then None else Some (nodes_in shapes)) none in
    (children-faultless 0 shapes parts.0, allowed-of test (nodes_in shapes) parts.1)

-- ---- the group of a node

pub group-there : (option : Option Group) (test : Group → Bool) → is_at_some option test ≡ true → (group : Group) × ((option ≡ Some group) × (test group ≡ true))
group-there None test is = absurd (true≢false (sym is))
group-there (Some group) test is = (group, (refl, is))

-- ---- the layers

module _ (groups : List Group) (costs : Costs) (bound : Bound) (valid : AreValid groups costs bound) where
  abbrev IsOver : Shape → Type 0
  IsOver shape = Faultless shape → AtMost (bound shape.made) (Some shape.cost)

  abbrev Holds : Plan → Type 0
  Holds p = IsOver (shape_of groups costs p)

  scanned : (group : GroupId) (prop : Prop) → IsOver (shape_step groups costs (Plan-F.Scan group prop))
  scanned group prop none =
      let allowed = node-allowed [] (is_at groups group (λ of. is_scanned of prop)) none in
      let there = group-there (slice_get groups group.0) (λ of. is_scanned of prop) allowed.1 in
      valid (record { group = group; prop = prop }) there.0 way.Scan there.1.0 there.1.1

  none-operated : (group : Group) (first second third : Made) (more : List Made) (prop : Prop) → is_operated group (first ∷ second ∷ third ∷ more) prop ≡ false
  none-operated group first second third more prop = by (may_have group.interesting prop) (among group.exprs)
    where
      over : (expr : Expr) → operates (first ∷ second ∷ third ∷ more) prop expr ≡ false
      over expr = either (are_groups_of (first ∷ second ∷ third ∷ more) expr.children)
        where
          either : (test : Bool) → (test && false) ≡ false
          either true = refl
          either false = refl

      among : (exprs : List Expr) → list_any (operates (first ∷ second ∷ third ∷ more) prop) exprs ≡ false
      among [] = refl
      among (expr ∷ exprs) = rw (over expr) (among exprs)

      by : (test : Bool) {other : Bool} → other ≡ false → (test && other) ≡ false
      by true none = none
      by false none = refl

  none-over : (group : Group) (prop : Prop) → is_operated group [] prop ≡ false
  none-over group prop = by (may_have group.interesting prop) (among group.exprs)
    where
      among : (exprs : List Expr) → list_any (operates [] prop) exprs ≡ false
      among [] = refl
      among (expr ∷ exprs) = among exprs

      by : (test : Bool) {other : Bool} → other ≡ false → (test && other) ≡ false
      by true none = none
      by false none = refl

  operated : (group : GroupId) (prop : Prop) (shapes : List Shape) → AllByRecursion IsOver shapes → IsOver (shape_step groups costs (Plan-F.Op group prop shapes))
  operated group prop [] over none =
      let allowed = node-allowed [] (is_at groups group (λ of. is_operated of [] prop)) none in
      let there = group-there (slice_get groups group.0) (λ of. is_operated of [] prop) allowed.1 in
      absurd (true≢false (sym there.1.1 ∙ none-over there.0 prop))
  operated group prop (child ∷ []) over none =
      let allowed = node-allowed (child ∷ []) (is_at groups group (λ of. is_operated of (child.made ∷ []) prop)) none in
      let there = group-there (slice_get groups group.0) (λ of. is_operated of (child.made ∷ []) prop) allowed.1 in
      at_most-trans (bound (record { group = group; prop = prop })) _ (Some (0 + child.cost))
      (valid (record { group = group; prop = prop }) there.0 (way.One child.made) there.1.0 there.1.1)
      (one (bound child.made) child.cost (over.0 allowed.0.0))
    where
      one : (b : Option ℕ) (cost : ℕ) → AtMost b (Some cost) → AtMost (plus (plus b (Some 0)) (Some 0)) (Some (0 + cost))
      one None cost under = absurd under
      one (Some b) cost under = omega arith
  operated group prop (left ∷ right ∷ []) over none =
      let allowed = node-allowed (left ∷ right ∷ []) (is_at groups group (λ of. is_operated of (left.made ∷ right.made ∷ []) prop)) none in
      let there = group-there (slice_get groups group.0) (λ of. is_operated of (left.made ∷ right.made ∷ []) prop) allowed.1 in
      at_most-trans (bound (record { group = group; prop = prop })) _ (Some (0 + left.cost + right.cost))
      (valid (record { group = group; prop = prop }) there.0 (way.Two left.made right.made) there.1.0 there.1.1)
      (two (bound left.made) (bound right.made) left.cost right.cost (over.0 allowed.0.0) (over.1.0 allowed.0.1.0))
    where
      two : (b c : Option ℕ) (cost other : ℕ) → AtMost b (Some cost) → AtMost c (Some other) → AtMost (plus (plus b (plus c (Some 0))) (Some 0)) (Some (0 + cost + other))
      two None c cost other under below = absurd under
      two (Some b) None cost other under below = absurd below
      two (Some b) (Some c) cost other under below = omega arith
  operated group prop (first ∷ second ∷ third ∷ more) over none =
      let made = made_in (first ∷ second ∷ third ∷ more) in
      let allowed = node-allowed (first ∷ second ∷ third ∷ more) (is_at groups group (λ of. is_operated of made prop)) none in
      let there = group-there (slice_get groups group.0) (λ of. is_operated of made prop) allowed.1 in
      absurd (true≢false (sym there.1.1 ∙ none-operated there.0 first.made second.made third.made (made_in more) prop))

  -- a way over the one child of a move or a free change
  after-one : (b : Option ℕ) (cost more : ℕ) → AtMost b (Some cost) → AtMost (plus (plus b (Some 0)) (Some more)) (Some (cost + more))
  after-one None cost more under = absurd under
  after-one (Some b) cost more under = omega arith

  moved : (mv : Move) (child : Shape) → IsOver child → IsOver (shape_step groups costs (Plan-F.Moved mv child))
  moved mv child over none =
      let test : Group → Bool = λ of. is_moved of mv child.made.prop in
      let allowed = node-allowed (child ∷ []) (is_at groups child.made.group test) none in
      let there = group-there (slice_get groups child.made.group.0) test allowed.1 in
      let parts = and_parts (is_same (property_before mv) child.made.prop) (may_have there.0.interesting (property_after mv)) there.1.1 in
      let is : child.made ≡ record { group = child.made.group; prop = property_before mv } = ap (λ (p : Prop). let made : Made = record { group = child.made.group; prop = p } in made) (sym (same-alike (property_before mv) child.made.prop parts.0)) in
      let made : Made = record { group = child.made.group; prop = property_after mv } in
      let allows : is_way there.0 (property_after mv) (way.Moved mv) ≡ true = rw (same-itself (property_after mv), same-itself (property_before mv)) parts.1 in
      at_most-trans (bound made) _ (Some (child.cost + costs child.made.group mv))
      (valid made there.0 (way.Moved mv) there.1.0 allows)
      (after-one (bound (record { group = child.made.group; prop = property_before mv })) child.cost (costs child.made.group mv) (subst (λ m. AtMost (bound m) (Some child.cost)) is (over allowed.0.0)))

  freed : (to : Prop) (child : Shape) → IsOver child → IsOver (shape_step groups costs (Plan-F.Free to child))
  freed to child over none =
      let test : Group → Bool = λ of. is_freed of child.made.prop to in
      let allowed = node-allowed (child ∷ []) (is_at groups child.made.group test) none in
      let there = group-there (slice_get groups child.made.group.0) test allowed.1 in
      let made : Made = record { group = child.made.group; prop = to } in
      at_most-trans (bound made) _ (Some child.cost)
      (valid made there.0 (way.Free child.made.prop) there.1.0 there.1.1)
      (last (bound child.made) child.cost (over allowed.0.0))
    where
      last : (b : Option ℕ) (cost : ℕ) → AtMost b (Some cost) → AtMost (plus (plus b (Some 0)) (Some 0)) (Some cost)
      last None cost under = absurd under
      last (Some b) cost under = omega arith

  shapes-over : (plans : List Plan) → AllByRecursion Holds plans → AllByRecursion IsOver (map (shape_of groups costs) plans)
  shapes-over [] all = tt
  shapes-over (p ∷ plans) all = (all.0, shapes-over plans all.1)

  inductive : Inductive Holds
  inductive = record {
    scan = λ group prop. subst IsOver (sym (fold-scan (shape_step groups costs) group prop)) (scanned group prop);
    op = λ group prop children all. subst IsOver (sym (fold-op (shape_step groups costs) group prop children)) (operated group prop (map (shape_of groups costs) children) (shapes-over children all));
    moved = λ mv child over. subst IsOver (sym (fold-moved (shape_step groups costs) mv child)) (moved mv (shape_of groups costs child) over);
    free = λ to child over. subst IsOver (sym (fold-free (shape_step groups costs) to child)) (freed to (shape_of groups costs child) over);
  }

  pub under-plans : (p : Plan) (made : Made) → IsPlan groups costs p made → AtMost (bound made) (Some (cost_of_plan groups costs p))
  under-plans p made is = subst (λ m. AtMost (bound m) (Some (cost_of_plan groups costs p))) is.makes (by_plans Holds inductive p is.allowed)
