-- Nodes over plans that cost the bounds of a way are plans that cost its sum.
use Rattle.std.proofs.Common.{◌≡◌, ◌+◌, ℕ, Bool, true, false, List, [], ◌∷◌, Option, Some, None, refl, sym, ap, ap₂, subst, ◌∙◌, arith, if◌then◌else◌}
use Rattle.std.proofs.lemmas.Bool.{and_parts}
use Rattle.std.specs.List.{slice_get}
use Rattle.std.specs.Option.{option_map, option_or}
use Rattle.pdw_groups.specs.declared.group.Group.{Group}
use Rattle.pdw_groups.specs.declared.key.GroupId.{GroupId}
use Rattle.pdw_move.specs.Move.{property_after, property_before}
use Rattle.pdw_move.specs.declared.kinds.Move.{Move}
use Rattle.pdw_move.specs.declared.kinds.Prop.{Prop}
use Rattle.pdw_rules.specs.Rules.{is_same}
use Rattle.pdw_ways.proofs.PlanFolds.{fold-free, fold-moved, fold-op, fold-scan}
use Rattle.pdw_ways.proofs.Same.{same-alike}
use Rattle.pdw_ways.specs.Shape.{IsPlan, Shape, fault_after, fault_at, nodes_in, shape_of, shape_step}
use Rattle.pdw_ways.specs.Ways.{Costs, is_at, is_at_some, is_freed, is_moved, is_operated, is_scanned, is_way}
use Rattle.pdw_ways.specs.declared.made.Made.{Made}
use Rattle.pdw_ways.specs.declared.plan.Plan.{Plan}
use Rattle.pdw_ways.specs.declared.plan.Plan.TheOpen.{Plan-F}
use Rattle.pdw_ways.specs.declared.plan.Plan.TheVariants as plan
use Rattle.pdw_ways.specs.declared.way.Way.TheVariants as way

-- a plan that makes these rows at this cost
pub record Makes (groups : List Group) (costs : Costs) (p : Plan) (made : Made) (cost : ℕ) : Type 0 where
  pub is : IsPlan groups costs p made
  pub total : (shape_of groups costs p).cost ≡ cost

-- the same of a shape
record ShapeMakes (shape : Shape) (made : Made) (cost : ℕ) : Type 0 where
  pub fault : shape.fault ≡ None
  pub makes : shape.made ≡ made
  pub total : shape.cost ≡ cost

test-passes : (nodes : ℕ) (test : Bool) → test ≡ true → (if test then None else Some nodes) ≡ None
test-passes nodes true is = refl
test-passes nodes false is = absurd (cc)

no-fault : (first second : Option ℕ) → first ≡ None → second ≡ None → option_or first second ≡ None
no-fault first second one two = rw (one, two) refl

shifted-none : (f : ℕ → ℕ) (fault : Option ℕ) → fault ≡ None → option_map f fault ≡ None
shifted-none f fault none = rw none refl

module _ (groups : List Group) (costs : Costs) (number : GroupId) (group : Group) (there : slice_get groups number.0 ≡ Some group) where
  at-group : (test : Group → Bool) → test group ≡ true → is_at groups number test ≡ true
  at-group test is = ap (λ (of : Option Group). is_at_some of test) there ∙ is

  abbrev shape : Plan → Shape
  shape = shape_of groups costs

  shape-of : (p : Plan) (made : Made) (cost : ℕ) → Makes groups costs p made cost → ShapeMakes (shape p) made cost
  shape-of p made cost makes = record { fault = makes.is.allowed; makes = makes.is.makes; total = makes.total }

  of-shape : (p : Plan) (s : Shape) (made : Made) (cost : ℕ) → shape p ≡ s → ShapeMakes s made cost → Makes groups costs p made cost
  of-shape p s made cost same makes = record {
    is = record { allowed = ap (λ (x : Shape). x.fault) same ∙ makes.fault; makes = ap (λ (x : Shape). x.made) same ∙ makes.makes };
    total = ap (λ (x : Shape). x.cost) same ∙ makes.total;
  }

  one-faultless : (s : Shape) (test : Bool) → s.fault ≡ None → test ≡ true → fault_at (s ∷ []) test ≡ None
  one-faultless s test none is = no-fault (fault_after 0 (s ∷ [])) (if test then None else Some (nodes_in (s ∷ []))) (no-fault (option_map (λ node. 0 + node) s.fault) None (shifted-none (λ node. 0 + node) s.fault none) refl) (test-passes (nodes_in (s ∷ [])) test is)

  two-faultless : (s t : Shape) (test : Bool) → s.fault ≡ None → t.fault ≡ None → test ≡ true → fault_at (s ∷ t ∷ []) test ≡ None
  two-faultless s t test none nor is =
      no-fault (fault_after 0 (s ∷ t ∷ [])) (if test then None else Some (nodes_in (s ∷ t ∷ [])))
      (no-fault (option_map (λ node. 0 + node) s.fault) (fault_after (0 + s.nodes) (t ∷ [])) (shifted-none (λ node. 0 + node) s.fault none)
      (no-fault (option_map (λ node. 0 + s.nodes + node) t.fault) None (shifted-none (λ node. 0 + s.nodes + node) t.fault nor) refl))
      (test-passes (nodes_in (s ∷ t ∷ [])) test is)

  pub scan-makes : (p : Prop) → is_way group p way.Scan ≡ true → Makes groups costs (plan.Scan number p) (record { group = number; prop = p }) 0
  scan-makes p is = of-shape (plan.Scan number p) (shape_step groups costs (Plan-F.Scan number p)) _ 0 (fold-scan (shape_step groups costs) number p) (record {
    fault = test-passes 0 (is_at groups number (λ of. is_scanned of p)) (at-group (λ of. is_scanned of p) is);
    makes = refl;
    total = refl;
  })

  pub one-makes : (p : Prop) (child : Made) (tree : Plan) (cost : ℕ) → is_way group p (way.One child) ≡ true → Makes groups costs tree child cost → Makes groups costs (plan.Op number p (tree ∷ [])) (record { group = number; prop = p }) cost
  one-makes p child tree cost is made =
      let below = shape-of tree child cost made in
      of-shape (plan.Op number p (tree ∷ [])) (shape_step groups costs (Plan-F.Op number p (shape tree ∷ []))) _ cost (fold-op (shape_step groups costs) number p (tree ∷ [])) (record {
        fault = one-faultless (shape tree) (is_at groups number (λ of. is_operated of ((shape tree).made ∷ []) p)) below.fault
            (at-group (λ of. is_operated of ((shape tree).made ∷ []) p) (subst (λ (m : Made). is_operated group (m ∷ []) p ≡ true) (sym below.makes) is));
        makes = refl;
        total = (let same : (shape tree).cost ≡ cost = below.total in omega arith);
      })

  pub two-makes : (p : Prop) (left right : Made) (first second : Plan) (cost other : ℕ) → is_way group p (way.Two left right) ≡ true → Makes groups costs first left cost → Makes groups costs second right other
      → Makes groups costs (plan.Op number p (first ∷ second ∷ [])) (record { group = number; prop = p }) (cost + other)
  two-makes p left right first second cost other is made also =
      let below = shape-of first left cost made in
      let beside = shape-of second right other also in
      of-shape (plan.Op number p (first ∷ second ∷ [])) (shape_step groups costs (Plan-F.Op number p (shape first ∷ shape second ∷ []))) _ (cost + other) (fold-op (shape_step groups costs) number p (first ∷ second ∷ [])) (record {
        fault = two-faultless (shape first) (shape second) (is_at groups number (λ of. is_operated of ((shape first).made ∷ (shape second).made ∷ []) p)) below.fault beside.fault
            (at-group (λ of. is_operated of ((shape first).made ∷ (shape second).made ∷ []) p)
            (subst (λ (m : Made). is_operated group (m ∷ (shape second).made ∷ []) p ≡ true) (sym below.makes) (subst (λ (m : Made). is_operated group (left ∷ m ∷ []) p ≡ true) (sym beside.makes) is)));
        makes = refl;
        total = (let same : (shape first).cost ≡ cost = below.total in let alike : (shape second).cost ≡ other = beside.total in omega arith);
      })

  -- the group of a child of the same group
  at-child : (s : Shape) (p : Prop) → s.made ≡ record { group = number; prop = p } → (test : Group → Bool) → test group ≡ true → is_at groups s.made.group test ≡ true
  at-child s p same test is = ap (λ (m : Made). is_at groups m.group test) same ∙ at-group test is

  pub moved-makes : (p : Prop) (mv : Move) (tree : Plan) (cost : ℕ) → is_way group p (way.Moved mv) ≡ true → Makes groups costs tree (record { group = number; prop = property_before mv }) cost
      → Makes groups costs (plan.Moved mv tree) (record { group = number; prop = p }) (cost + costs number mv)
  moved-makes p mv tree cost is made =
      let below = shape-of tree _ cost made in
      let parts = and_parts (is_same (property_after mv) p) (is_moved group mv (property_before mv)) is in
      let after : property_after mv ≡ p = same-alike (property_after mv) p parts.0 in
      of-shape (plan.Moved mv tree) (shape_step groups costs (Plan-F.Moved mv (shape tree))) _ (cost + costs number mv) (fold-moved (shape_step groups costs) mv tree) (record {
        fault = one-faultless (shape tree) (is_at groups (shape tree).made.group (λ of. is_moved of mv (shape tree).made.prop)) below.fault
            (at-child (shape tree) (property_before mv) below.makes (λ of. is_moved of mv (shape tree).made.prop) (subst (λ (m : Made). is_moved group mv m.prop ≡ true) (sym below.makes) parts.1));
        makes = ap₂ (λ (g : GroupId) (q : Prop). let m : Made = record { group = g; prop = q } in m) (ap (λ (m : Made). m.group) below.makes) after;
        total = ap₂ (λ (n : ℕ) (g : GroupId). n + costs g mv) below.total (ap (λ (m : Made). m.group) below.makes);
      })

  pub freed-makes : (p before : Prop) (tree : Plan) (cost : ℕ) → is_way group p (way.Free before) ≡ true → Makes groups costs tree (record { group = number; prop = before }) cost
      → Makes groups costs (plan.Free p tree) (record { group = number; prop = p }) cost
  freed-makes p before tree cost is made =
      let below = shape-of tree _ cost made in
      of-shape (plan.Free p tree) (shape_step groups costs (Plan-F.Free p (shape tree))) _ cost (fold-free (shape_step groups costs) p tree) (record {
        fault = one-faultless (shape tree) (is_at groups (shape tree).made.group (λ of. is_freed of (shape tree).made.prop p)) below.fault
            (at-child (shape tree) before below.makes (λ of. is_freed of (shape tree).made.prop p) (subst (λ (m : Made). is_freed group m.prop p ≡ true) (sym below.makes) is));
        makes = ap (λ (g : GroupId). let m : Made = record { group = g; prop = p } in m) (ap (λ (m : Made). m.group) below.makes);
        total = below.total;
      })
