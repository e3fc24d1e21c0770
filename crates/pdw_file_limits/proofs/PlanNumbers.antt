-- A plan without fault has numbers as plan files write them, where there are fewer than 2^32 groups, each with interesting columns
-- of numbers up to 65,535 alone.
use Rattle.std.proofs.Common.{◌≡◌, ◌==◌, ◌<◌, ◌^◌, ◌&&◌, ◌⊎◌, Bool, true, inl, inr, List, [], ◌∷◌, length, map, Some, refl, sym, subst, arith, le-leb, lt-ltb}
use Rattle.std.proofs.lemmas.Bool.{and_from, and_parts, or_cases}
use Rattle.std.proofs.lemmas.Option.{slice_get_within}
use Rattle.std.specs.List.{AllByRecursion, list_all, list_any, slice_get}
use Rattle.pdw_base.specs.declared.schema.ColId.{ColId}
use Rattle.pdw_file_limits.proofs.TreeColumns.{AllLow}
use Rattle.pdw_groups.specs.declared.group.Expr.{Expr}
use Rattle.pdw_groups.specs.declared.group.Group.{Group}
use Rattle.pdw_groups.specs.declared.key.GroupId.{GroupId}
use Rattle.pdw_memo.proofs.EachGroup.{all-at}
use Rattle.pdw_move.specs.Move.{property_after, property_before}
use Rattle.pdw_move.specs.declared.kinds.Move.{Move}
use Rattle.pdw_move.specs.declared.kinds.Prop.{Prop}
use Rattle.pdw_move.specs.declared.kinds.Prop.TheVariants as prop
use Rattle.pdw_planjson.specs.Limits.{has_column, has_numbers, is_group, numbers_step}
use Rattle.pdw_rules.specs.Rules.{is_free, is_same, leaf_rule, may_have}
use Rattle.pdw_ways.proofs.PlanFolds.{Inductive, by_plans, fold-free, fold-moved, fold-op, fold-scan}
use Rattle.pdw_ways.proofs.Same.{column-alike, never}
use Rattle.pdw_ways.proofs.Under.{Faultless, group-there, node-allowed}
use Rattle.pdw_ways.specs.Shape.{Shape, made_in, shape_of, shape_step}
use Rattle.pdw_ways.specs.Ways.{Costs, is_at, is_freed, is_moved, is_operated, is_scanned, operates}
use Rattle.pdw_ways.specs.declared.plan.Plan.{Plan}
use Rattle.pdw_ways.specs.declared.plan.Plan.TheOpen.{Plan-F}
use Rattle.pdw_ways.specs.declared.plan.Plan.TheVariants as plan

-- fewer than 2^32 groups, with interesting columns of these numbers alone
pub record AreSmall (groups : List Group) : Type 0 where
  pub few : length groups < 2 ^ 32
  pub low : AllByRecursion (λ (group : Group). AllLow 65536 group.interesting) groups

-- ---- properties

column-low : (c : ColId) → c.0 < 65536 → has_column (prop.Hash c) ≡ true
column-low c low = le-leb c.0 65535 (omega (arith, low))

among-low : (columns : List ColId) → AllLow 65536 columns → (c : ColId) → list_any (λ (i : ColId). i.0 == c.0) columns ≡ true → c.0 < 65536
among-low [] low c there = never there
among-low (i ∷ columns) low c there = by (or_cases (i.0 == c.0) (list_any (λ (i : ColId). i.0 == c.0) columns) there) (among-low columns low.1 c)
  where
    by : ((i.0 == c.0) ≡ true) ⊎ (list_any (λ (i : ColId). i.0 == c.0) columns ≡ true) → (list_any (λ (i : ColId). i.0 == c.0) columns ≡ true → c.0 < 65536) → c.0 < 65536
    by (inl here) later = subst (λ (d : ColId). d.0 < 65536) (column-alike i c here) low.0
    by (inr there) later = later there

property-low : (interesting : List ColId) → AllLow 65536 interesting → (p : Prop) → may_have interesting p ≡ true → has_column p ≡ true
property-low interesting low prop.Spread may = refl
property-low interesting low (prop.Hash c) may = column-low c (among-low interesting low c may)
property-low interesting low prop.Replicated may = refl
property-low interesting low prop.Single may = refl
property-low interesting low prop.Control may = refl

-- ---- plans

module _ (groups : List Group) (costs : Costs) (small : AreSmall groups) where
  group-small : (number : GroupId) (group : Group) → slice_get groups number.0 ≡ Some group → is_group number ≡ true
  group-small number group there =
      let inside = slice_get_within groups number.0 group there in
      let few = small.few in
      lt-ltb number.0 (2 ^ 32) (omega (arith, inside, few))

  prop-small : (number : GroupId) (group : Group) → slice_get groups number.0 ≡ Some group → (p : Prop) → may_have group.interesting p ≡ true → has_column p ≡ true
  prop-small number group there = property-low group.interesting (all-at (λ (group : Group). AllLow 65536 group.interesting) groups small.low number.0 group there)

  made-small : (number : GroupId) (group : Group) → slice_get groups number.0 ≡ Some group → (p : Prop) → may_have group.interesting p ≡ true → (is_group number && has_column p) ≡ true
  made-small number group there p may = and_from (is_group number) (has_column p) (group-small number group there) (prop-small number group there p may)

  abbrev shape : Plan → Shape
  shape = shape_of groups costs

  abbrev AreNumbers : Bool → Shape → Type 0
  AreNumbers small s = Faultless s → small ≡ true

  abbrev HasNumbers : Plan → Type 0
  HasNumbers p = AreNumbers (has_numbers p) (shape p)

  scan-numbers : (number : GroupId) (p : Prop) → AreNumbers (is_group number && has_column p) (shape_step groups costs (Plan-F.Scan number p))
  scan-numbers number p none =
      let test : Group → Bool = λ of. is_scanned of p in
      let there = group-there (slice_get groups number.0) test (node-allowed [] (is_at groups number test) none).1 in
      made-small number there.0 there.1.0 p (and_parts (may_have (there.0).interesting p) (list_any (λ (expr : Expr). leaf_rule expr.op p) (there.0).exprs) there.1.1).0

  each-numbers : (children : List Plan) → AllByRecursion HasNumbers children → AllByRecursion Faultless (map shape children) → list_all (λ child. child) (map has_numbers children) ≡ true
  each-numbers [] all none = refl
  each-numbers (child ∷ children) all none = and_from (has_numbers child) (list_all (λ child. child) (map has_numbers children)) (all.0 none.0) (each-numbers children all.1 none.1)

  op-numbers : (number : GroupId) (p : Prop) (children : List Plan) → AllByRecursion HasNumbers children
      → AreNumbers ((is_group number && has_column p) && list_all (λ child. child) (map has_numbers children)) (shape_step groups costs (Plan-F.Op number p (map shape children)))
  op-numbers number p children all none =
      let made = made_in (map shape children) in
      let test : Group → Bool = λ of. is_operated of made p in
      let allowed = node-allowed (map shape children) (is_at groups number test) none in
      let there = group-there (slice_get groups number.0) test allowed.1 in
      and_from (is_group number && has_column p) (list_all (λ child. child) (map has_numbers children))
      (made-small number there.0 there.1.0 p (and_parts (may_have (there.0).interesting p) (list_any (operates made p) (there.0).exprs) there.1.1).0)
      (each-numbers children all allowed.0)

  moved-numbers : (mv : Move) (numbers : Bool) (s : Shape) → AreNumbers numbers s → AreNumbers (has_column (property_after mv) && numbers) (shape_step groups costs (Plan-F.Moved mv s))
  moved-numbers mv numbers s is none =
      let test : Group → Bool = λ of. is_moved of mv s.made.prop in
      let allowed = node-allowed (s ∷ []) (is_at groups s.made.group test) none in
      let there = group-there (slice_get groups s.made.group.0) test allowed.1 in
      let may = (and_parts (is_same (property_before mv) s.made.prop) (may_have (there.0).interesting (property_after mv)) there.1.1).1 in
      and_from (has_column (property_after mv)) numbers (prop-small s.made.group there.0 there.1.0 (property_after mv) may) (is allowed.0.0)

  free-numbers : (to : Prop) (numbers : Bool) (s : Shape) → AreNumbers numbers s → AreNumbers (has_column to && numbers) (shape_step groups costs (Plan-F.Free to s))
  free-numbers to numbers s is none =
      let test : Group → Bool = λ of. is_freed of s.made.prop to in
      let allowed = node-allowed (s ∷ []) (is_at groups s.made.group test) none in
      let there = group-there (slice_get groups s.made.group.0) test allowed.1 in
      let may = (and_parts (is_free s.made.prop to) (may_have (there.0).interesting to) there.1.1).1 in
      and_from (has_column to) numbers (prop-small s.made.group there.0 there.1.0 to may) (is allowed.0.0)

  as-folds : (p : Plan) (numbers : Bool) (s : Shape) → has_numbers p ≡ numbers → shape p ≡ s → AreNumbers numbers s → HasNumbers p
  as-folds p numbers s is shapes of = subst (λ (x : Shape). AreNumbers (has_numbers p) x) (sym shapes) (subst (λ (b : Bool). AreNumbers b s) (sym is) of)

  numbers-cases : Inductive HasNumbers
  numbers-cases = record {
    scan = λ group p. as-folds (plan.Scan group p) _ _ (fold-scan numbers_step group p) (fold-scan (shape_step groups costs) group p) (scan-numbers group p);
    op = λ group p children all. as-folds (plan.Op group p children) _ _ (fold-op numbers_step group p children) (fold-op (shape_step groups costs) group p children) (op-numbers group p children all);
    moved = λ mv child is. as-folds (plan.Moved mv child) _ _ (fold-moved numbers_step mv child) (fold-moved (shape_step groups costs) mv child) (moved-numbers mv (has_numbers child) (shape child) is);
    free = λ to child is. as-folds (plan.Free to child) _ _ (fold-free numbers_step to child) (fold-free (shape_step groups costs) to child) (free-numbers to (has_numbers child) (shape child) is);
  }

  pub faultless-numbers : (p : Plan) → Faultless (shape p) → has_numbers p ≡ true
  faultless-numbers = by_plans HasNumbers numbers-cases
