-- A plan without fault has nodes of the format's kinds alone: its operators have one or two children, and its free changes give
-- spread rows, or rows at one node.
use Rattle.std.proofs.Common.{◌≡◌, ◌&&◌, Bool, true, false, ◌⊎◌, inl, inr, List, [], ◌∷◌, map, refl, sym, ap₂, subst}
use Rattle.std.proofs.lemmas.Bool.{and_parts, or_cases}
use Rattle.std.specs.List.{AllByRecursion, list_any, slice_get}
use Rattle.pdw_groups.specs.declared.group.Group.{Group}
use Rattle.pdw_groups.specs.declared.key.GroupId.{GroupId}
use Rattle.pdw_move.specs.declared.kinds.Move.{Move}
use Rattle.pdw_move.specs.declared.kinds.Prop.{Prop}
use Rattle.pdw_move.specs.declared.kinds.Prop.TheVariants as prop
use Rattle.pdw_planjson.specs.Limits as limits
use Rattle.pdw_planjson.specs.Limits.{has_kinds, is_one_or_two, kinds_step}
use Rattle.pdw_rules.specs.Rules.{is_free, may_have}
use Rattle.pdw_ways.proofs.PlanFolds.{Inductive, by_plans, fold-free, fold-moved, fold-op, fold-scan}
use Rattle.pdw_ways.proofs.Same.{never}
use Rattle.pdw_ways.proofs.Under.{Faultless, group-there, node-allowed}
use Rattle.pdw_ways.specs.Shape.{Shape, made_in, shape_of, shape_step}
use Rattle.pdw_ways.specs.Ways.{Costs, are_groups_of, is_at, is_freed, is_moved, is_operated, operates}
use Rattle.pdw_ways.specs.declared.made.Made.{Made}
use Rattle.pdw_ways.specs.declared.plan.Plan.{Plan}
use Rattle.pdw_ways.specs.declared.plan.Plan.TheOpen.{Plan-F}
use Rattle.pdw_ways.specs.declared.plan.Plan.TheVariants as plan

-- ---- how many children an operator has

-- one or two
abbrev pub IsOneOrTwo : {X : Type 0} → List X → Type 0
IsOneOrTwo [] = ⊥
IsOneOrTwo (only ∷ []) = Unit {0}
IsOneOrTwo (left ∷ right ∷ []) = Unit {0}
IsOneOrTwo (left ∷ right ∷ third ∷ more) = ⊥

never-any : {X : Type 0} (test : X → Bool) (xs : List X) → ((x : X) → test x ≡ true → ⊥) → list_any test xs ≡ true → ⊥
never-any test [] none is = never is
never-any test (x ∷ xs) none is = by (or_cases (test x) (list_any test xs) is) (never-any test xs none)
  where
    by : ((test x ≡ true) ⊎ (list_any test xs ≡ true)) → (list_any test xs ≡ true → ⊥) → ⊥
    by (inl here) later = none x here
    by (inr there) later = later there

pub one-or-two : (of : Group) (below : List Made) (p : Prop) → is_operated of below p ≡ true → IsOneOrTwo below
one-or-two of [] p is = never-any (operates [] p) of.exprs (λ expr wrong. never wrong) (and_parts (may_have of.interesting p) (list_any (operates [] p) of.exprs) is).1
one-or-two of (only ∷ []) p is = tt
one-or-two of (left ∷ right ∷ []) p is = tt
one-or-two of (left ∷ right ∷ third ∷ more) p is =
    never-any (operates (left ∷ right ∷ third ∷ more) p) of.exprs (λ expr wrong. never (and_parts (are_groups_of (left ∷ right ∷ third ∷ more) expr.children) false wrong).1)
    (and_parts (may_have of.interesting p) (list_any (operates (left ∷ right ∷ third ∷ more) p) of.exprs) is).1

-- ---- free changes

freed-kind : (before to : Prop) → is_free before to ≡ true → limits.is_freed to ≡ true
freed-kind (prop.Hash c) prop.Spread is = refl
freed-kind prop.Replicated prop.Single is = refl
freed-kind _ _ is = never is

-- ---- plans

module _ (groups : List Group) (costs : Costs) where
  abbrev shape : Plan → Shape
  shape = shape_of groups costs

  abbrev AreOfKinds : Bool → Shape → Type 0
  AreOfKinds kinds s = Faultless s → kinds ≡ true

  abbrev IsOfKinds : Plan → Type 0
  IsOfKinds p = AreOfKinds (has_kinds p) (shape p)

  op-kinds : (group : GroupId) (p : Prop) (children : List Plan) → AllByRecursion IsOfKinds children → AreOfKinds (is_one_or_two (map has_kinds children)) (shape_step groups costs (Plan-F.Op group p (map shape children)))
  op-kinds group p children all none =
      let made = made_in (map shape children) in
      let test : Group → Bool = λ of. is_operated of made p in
      let allowed = node-allowed (map shape children) (is_at groups group test) none in
      let there = group-there (slice_get groups group.0) test allowed.1 in
      by children all allowed.0 (one-or-two there.0 made p there.1.1)
    where
      by : (children : List Plan) → AllByRecursion IsOfKinds children → AllByRecursion Faultless (map shape children) → IsOneOrTwo (made_in (map shape children)) → is_one_or_two (map has_kinds children) ≡ true
      by [] all none count = absurd count
      by (only ∷ []) all none count = all.0 none.0
      by (left ∷ right ∷ []) all none count = ap₂ (λ (a b : Bool). a && b) (all.0 none.0) (all.1.0 none.1.0)
      by (left ∷ right ∷ third ∷ more) all none count = absurd count

  free-kinds : (to : Prop) (kinds : Bool) (s : Shape) → AreOfKinds kinds s → AreOfKinds (limits.is_freed to && kinds) (shape_step groups costs (Plan-F.Free to s))
  free-kinds to kinds s is none =
      let test : Group → Bool = λ of. is_freed of s.made.prop to in
      let allowed = node-allowed (s ∷ []) (is_at groups s.made.group test) none in
      let there = group-there (slice_get groups s.made.group.0) test allowed.1 in
      let parts = and_parts (is_free s.made.prop to) (may_have there.0.interesting to) there.1.1 in
      ap₂ (λ (a b : Bool). a && b) (freed-kind s.made.prop to parts.0) (is allowed.0.0)

  moved-kinds : (mv : Move) (kinds : Bool) (s : Shape) → AreOfKinds kinds s → AreOfKinds kinds (shape_step groups costs (Plan-F.Moved mv s))
  moved-kinds mv kinds s is none = is (node-allowed (s ∷ []) (is_at groups s.made.group (λ of. is_moved of mv s.made.prop)) none).0.0

  as-folds : (p : Plan) (kinds : Bool) (s : Shape) → has_kinds p ≡ kinds → shape p ≡ s → AreOfKinds kinds s → IsOfKinds p
  as-folds p kinds s is shapes of = subst (λ (x : Shape). AreOfKinds (has_kinds p) x) (sym shapes) (subst (λ (b : Bool). AreOfKinds b s) (sym is) of)

  kinds-cases : Inductive IsOfKinds
  kinds-cases = record {
    scan = λ group p. as-folds (plan.Scan group p) true _ (fold-scan kinds_step group p) (fold-scan (shape_step groups costs) group p) (λ none. refl);
    op = λ group p children all. as-folds (plan.Op group p children) _ _ (fold-op kinds_step group p children) (fold-op (shape_step groups costs) group p children) (op-kinds group p children all);
    moved = λ mv child is. as-folds (plan.Moved mv child) _ _ (fold-moved kinds_step mv child) (fold-moved (shape_step groups costs) mv child) (moved-kinds mv (has_kinds child) (shape child) is);
    free = λ to child is. as-folds (plan.Free to child) _ _ (fold-free kinds_step to child) (fold-free (shape_step groups costs) to child) (free-kinds to (has_kinds child) (shape child) is);
  }

  pub faultless-kinds : (p : Plan) → Faultless (shape p) → has_kinds p ≡ true
  faultless-kinds = by_plans IsOfKinds kinds-cases
