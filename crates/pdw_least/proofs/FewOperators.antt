-- A plan has at most as many scans and operators as its group weighs: each expression's children together are lighter than its
-- group.
use Rattle.std.proofs.Common.{◌≡◌, ◌≤◌, ℕ, suc, Bool, true, ◌⊎◌, inl, inr, List, [], ◌∷◌, map, sum, Some, sym, subst, arith}
use Rattle.std.proofs.lemmas.Bool.{and_parts, or_cases}
use Rattle.std.proofs.lemmas.List.Sums.{sum_by-cons}
use Rattle.std.specs.List.{AllByRecursion, list_any, slice_get, sum_by}
use Rattle.pdw_groups.specs.declared.group.Expr.{Expr}
use Rattle.pdw_groups.specs.declared.group.Group.{Group}
use Rattle.pdw_groups.specs.declared.key.GroupId.{GroupId}
use Rattle.pdw_move.specs.declared.kinds.Move.{Move}
use Rattle.pdw_move.specs.declared.kinds.Prop.{Prop}
use Rattle.pdw_rules.specs.Rules.{leaf_rule, may_have}
use Rattle.pdw_ways.proofs.PlanFolds.{Inductive, by_plans, fold-free, fold-moved, fold-op, fold-scan}
use Rattle.pdw_ways.proofs.Same.{never}
use Rattle.pdw_ways.proofs.Under.{Faultless, group-there, node-allowed}
use Rattle.pdw_ways.specs.Shape.{IsPlan, Shape, made_in, shape_of, shape_step}
use Rattle.pdw_ways.specs.Ways.{Costs, is_at, is_freed, is_moved, is_operated, is_scanned, operates}
use Rattle.pdw_ways.specs.declared.made.Made.{Made}
use Rattle.pdw_ways.specs.declared.plan.Plan.{Plan}
use Rattle.pdw_ways.specs.declared.plan.Plan.TheOpen.{Plan-F}
use Rattle.pdw_ways.specs.declared.plan.Plan.TheVariants as plan
use Rattle.pdw_least.proofs.Limits.{children-lighter}
use Rattle.pdw_least.specs.Premises.{AreLight}
use Rattle.pdw_least.specs.Runs.{operators, operators_step}

-- what holds of each holds of one that passes
passing : {X : Type 0} (P : X → Type 0) (test : X → Bool) (xs : List X) → AllByRecursion P xs → list_any test xs ≡ true → (x : X) × P x
passing P test [] all is = never is
passing P test (x ∷ xs) all is = by (or_cases (test x) (list_any test xs) is) (passing P test xs all.1)
  where
    by : ((test x ≡ true) ⊎ (list_any test xs ≡ true)) → (list_any test xs ≡ true → (y : _) × P y) → (y : _) × P y
    by (inl here) rest = (x, all.0)
    by (inr there) rest = rest there

none-operates : (p : Prop) (exprs : List Expr) → list_any (operates [] p) exprs ≡ true → ⊥
none-operates p [] is = never is
none-operates p (expr ∷ exprs) is = none-operates p exprs is

module _ (groups : List Group) (costs : Costs) (light : AreLight groups) where
  abbrev shape : Plan → Shape
  shape = shape_of groups costs

  abbrev IsLight : ℕ → Shape → Type 0
  IsLight count s = Faultless s → count ≤ light.weight s.made.group.0

  abbrev Weighs : Plan → Type 0
  Weighs p = IsLight (operators p) (shape p)

  scan-light : (group : GroupId) (prop : Prop) → IsLight 1 (shape_step groups costs (Plan-F.Scan group prop))
  scan-light group prop none =
      let test : Group → Bool = λ of. is_scanned of prop in
      let allowed = node-allowed [] (is_at groups group test) none in
      let there = group-there (slice_get groups group.0) test allowed.1 in
      let parts = and_parts (may_have there.0.interesting prop) (list_any (λ (expr : Expr). leaf_rule expr.op prop) there.0.exprs) there.1.1 in
      let found = passing (λ (expr : Expr). suc (sum_by (λ (child : GroupId). light.weight child.0) expr.children) ≤ light.weight group.0) (λ (expr : Expr). leaf_rule expr.op prop) there.0.exprs (light.over group.0 there.0 there.1.0) parts.1 in
      let over = found.1 in
      omega arith

  -- the children together
  children-light : (children : List Plan) → AllByRecursion Weighs children → AllByRecursion Faultless (map shape children) → sum (map operators children) ≤ sum_by (λ (m : Made). light.weight m.group.0) (made_in (map shape children))
  children-light [] all none = omega arith
  children-light (child ∷ children) all none =
      let first = all.0 none.0 in
      let rest = children-light children all.1 none.1 in
      let count = sum_by-cons (λ (n : ℕ). n) (operators child) (map operators children) in
      let weight = sum_by-cons (λ (m : Made). light.weight m.group.0) (shape child).made (made_in (map shape children)) in
      omega arith

  op-light : (group : GroupId) (prop : Prop) (children : List Plan) → AllByRecursion Weighs children → IsLight (suc (sum (map operators children))) (shape_step groups costs (Plan-F.Op group prop (map shape children)))
  op-light group prop children all none =
      let made = made_in (map shape children) in
      let test : Group → Bool = λ of. is_operated of made prop in
      let allowed = node-allowed (map shape children) (is_at groups group test) none in
      let there = group-there (slice_get groups group.0) test allowed.1 in
      let parts = and_parts (may_have there.0.interesting prop) (list_any (operates made prop) there.0.exprs) there.1.1 in
      let count = children-light children all allowed.0 in
      let over = lighter made there.0 there.1.0 parts.1 in
      omega arith
    where
      lighter : (made : List Made) (of : Group) → slice_get groups group.0 ≡ Some of → list_any (operates made prop) of.exprs ≡ true → suc (sum_by (λ (m : Made). light.weight m.group.0) made) ≤ light.weight group.0
      lighter [] of there is = absurd (none-operates prop of.exprs is)
      lighter (first ∷ below) of there is = children-lighter groups costs group of there prop light first below is

  moved-light : (mv : Move) (count : ℕ) (s : Shape) → IsLight count s → IsLight count (shape_step groups costs (Plan-F.Moved mv s))
  moved-light mv count s weighs none = weighs (node-allowed (s ∷ []) (is_at groups s.made.group (λ of. is_moved of mv s.made.prop)) none).0.0

  free-light : (to : Prop) (count : ℕ) (s : Shape) → IsLight count s → IsLight count (shape_step groups costs (Plan-F.Free to s))
  free-light to count s weighs none = weighs (node-allowed (s ∷ []) (is_at groups s.made.group (λ of. is_freed of s.made.prop to)) none).0.0

  as-folds : (p : Plan) (count : ℕ) (s : Shape) → operators p ≡ count → shape p ≡ s → IsLight count s → Weighs p
  as-folds p count s is shapes weighs = subst (λ (x : Shape). IsLight (operators p) x) (sym shapes) (subst (λ (n : ℕ). IsLight n s) (sym is) weighs)

  weighing : Inductive Weighs
  weighing = record {
    scan = λ group prop. as-folds (plan.Scan group prop) _ _ (fold-scan operators_step group prop) (fold-scan (shape_step groups costs) group prop) (scan-light group prop);
    op = λ group prop children all. as-folds (plan.Op group prop children) _ _ (fold-op operators_step group prop children) (fold-op (shape_step groups costs) group prop children) (op-light group prop children all);
    moved = λ mv child weighs. as-folds (plan.Moved mv child) _ _ (fold-moved operators_step mv child) (fold-moved (shape_step groups costs) mv child) (moved-light mv (operators child) (shape child) weighs);
    free = λ to child weighs. as-folds (plan.Free to child) _ _ (fold-free operators_step to child) (fold-free (shape_step groups costs) to child) (free-light to (operators child) (shape child) weighs);
  }

  pub few-operators : (p : Plan) (made : Made) → IsPlan groups costs p made → operators p ≤ light.weight made.group.0
  few-operators p made is = subst (λ (m : Made). operators p ≤ light.weight m.group.0) is.makes (by_plans Weighs weighing p is.allowed)
