-- Folds over plans, constructor by constructor, and induction over plans.
use Rattle.std.proofs.Common.{◌≡◌, List, [], ◌∷◌, map, sym, ap, subst, ◌∙◌}
use Rattle.std.specs.List.{AllByRecursion}
use Rattle.pdw_groups.specs.declared.key.GroupId.{GroupId}
use Rattle.pdw_move.specs.declared.kinds.Move.{Move}
use Rattle.pdw_move.specs.declared.kinds.Prop.{Prop}
use Rattle.pdw_ways.specs.declared.plan.Plan.{Plan}
use Rattle.pdw_ways.specs.declared.plan.Plan.TheOpen.{Plan-F}
use Rattle.pdw_ways.specs.declared.plan.Plan.TheViews.{roll-Plan}
use Rattle.pdw_ways.specs.declared.plan.Plan.TheFolds.{fold-Plan, fold-roll-Plan, ind-Plan, map-Plan}
use Rattle.pdw_ways.specs.declared.plan.Plan.TheVariants as plan

-- ---- folds

module _ {N : Type 0} (step : Plan-F N → N) where
  abbrev folded : Plan → N
  folded = fold-Plan N step

  pub fold-scan : (group : GroupId) (prop : Prop) → folded (plan.Scan group prop) ≡ step (Plan-F.Scan group prop)
  fold-scan group prop = ap folded (sym (plan.rolls-Scan group prop)) ∙ fold-roll-Plan N step (Plan-F.Scan group prop)

  pub fold-op : (group : GroupId) (prop : Prop) (children : List Plan) → folded (plan.Op group prop children) ≡ step (Plan-F.Op group prop (map folded children))
  fold-op group prop children = ap folded (sym (plan.rolls-Op group prop children)) ∙ fold-roll-Plan N step (Plan-F.Op group prop children)

  pub fold-moved : (mv : Move) (child : Plan) → folded (plan.Moved mv child) ≡ step (Plan-F.Moved mv (folded child))
  fold-moved mv child = ap folded (sym (plan.rolls-Moved mv child)) ∙ fold-roll-Plan N step (Plan-F.Moved mv child)

  pub fold-free : (to : Prop) (child : Plan) → folded (plan.Free to child) ≡ step (Plan-F.Free to (folded child))
  fold-free to child = ap folded (sym (plan.rolls-Free to child)) ∙ fold-roll-Plan N step (Plan-F.Free to child)

-- ---- induction

-- what holds of a plan where it holds of its children
pub record Inductive (P : Plan → Type 0) : Type 0 where
  pub scan : (group : GroupId) (prop : Prop) → P (plan.Scan group prop)
  pub op : (group : GroupId) (prop : Prop) (children : List Plan) → AllByRecursion P children → P (plan.Op group prop children)
  pub moved : (mv : Move) (child : Plan) → P child → P (plan.Moved mv child)
  pub free : (to : Prop) (child : Plan) → P child → P (plan.Free to child)

module _ (P : Plan → Type 0) (cases : Inductive P) where
  abbrev Known : Type 0
  Known = (p : Plan) × P p

  abbrev known : Plan-F Known → Plan-F Plan
  known = map-Plan Known Plan (λ p. p.0)

  each-known : (children : List Known) → AllByRecursion P (map (λ (child : Known). child.0) children)
  each-known [] = tt
  each-known (child ∷ children) = (child.1, each-known children)

  layer : (y : Plan-F Known) → P (roll-Plan (known y))
  layer (Plan-F.Scan group prop) = subst P (sym (plan.rolls-Scan group prop)) (cases.scan group prop)
  layer (Plan-F.Op group prop children) = subst P (sym (plan.rolls-Op group prop (map (λ (child : Known). child.0) children))) (cases.op group prop (map (λ (child : Known). child.0) children) (each-known children))
  layer (Plan-F.Moved mv child) = subst P (sym (plan.rolls-Moved mv child.0)) (cases.moved mv child.0 child.1)
  layer (Plan-F.Free to child) = subst P (sym (plan.rolls-Free to child.0)) (cases.free to child.0 child.1)

  pub by_plans : (p : Plan) → P p
  by_plans = ind-Plan P (λ x y is. subst (λ z. P (roll-Plan z)) is (layer y))
