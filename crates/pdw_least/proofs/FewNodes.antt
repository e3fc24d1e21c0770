-- A plan whose runs have no property twice has at most five nodes for each operator: an operator starts a run, and each node
-- stands in one.
use Rattle.std.proofs.Common.{◌≡◌, ◌≤◌, ◌+◌, ◌*◌, ℕ, suc, Bool, List, [], ◌∷◌, flat_map, length, map, sum, Option, Some, None, refl, sym, ap, ap₂, subst, ◌∙◌, arith}
use Rattle.std.proofs.lemmas.Bool.{and_parts}
use Rattle.std.proofs.lemmas.List.{length-append}
use Rattle.std.proofs.lemmas.List.Sums.{sum_by-append, sum_by-cons}
use Rattle.std.specs.List.{AllByRecursion, IsDistinct, slice_get, sum_by}
use Rattle.pdw_groups.specs.declared.group.Group.{Group}
use Rattle.pdw_groups.specs.declared.key.GroupId.{GroupId}
use Rattle.pdw_move.specs.Move.{property_after, property_before}
use Rattle.pdw_move.specs.declared.kinds.Move.{Move}
use Rattle.pdw_move.specs.declared.kinds.Prop.{Prop}
use Rattle.pdw_rules.specs.Rules.{is_free, is_same, may_have}
use Rattle.pdw_ways.proofs.PlanFolds.{Inductive, by_plans, fold-free, fold-moved, fold-op, fold-scan}
use Rattle.pdw_ways.proofs.Same.{same-alike}
use Rattle.pdw_ways.proofs.Under.{Faultless, group-there, node-allowed}
use Rattle.pdw_ways.specs.Shape.{IsPlan, Shape, made_in, nodes_in, shape_of, shape_step}
use Rattle.pdw_ways.specs.Ways.{Costs, is_at, is_freed, is_moved, is_operated}
use Rattle.pdw_ways.specs.declared.made.Made.{Made}
use Rattle.pdw_ways.specs.declared.plan.Plan.{Plan}
use Rattle.pdw_ways.specs.declared.plan.Plan.TheOpen.{Plan-F}
use Rattle.pdw_ways.specs.declared.plan.Plan.TheVariants as plan
use Rattle.pdw_least.proofs.Chains.{IsChain, chain-any, chain-freed, chain-moved, chain-start, middle, within-four}
use Rattle.pdw_least.proofs.RunFolds.{all-append, runs-free, runs-moved, runs-op, runs-scan}
use Rattle.pdw_least.specs.Built.{IsBuilt, IsReadOff}
use Rattle.pdw_least.specs.Log.{bounds_after}
use Rattle.pdw_least.specs.Runs.{HasFewNodes, HasShortRuns, IsWithinFour, Runs, each_run, operators, operators_step, runs_in, runs_of}
use Rattle.pdw_least.specs.declared.entry.Entry.{Entry}

-- ---- an operator starts a run

abbrev IsCounted : Plan → Type 0
IsCounted p = operators p ≡ length (each_run (runs_in p))

each-counted : (children : List Plan) → AllByRecursion IsCounted children → sum (map operators children) ≡ length (flat_map each_run (map runs_in children))
each-counted [] all = refl
each-counted (child ∷ children) all =
    sum_by-cons (λ (n : ℕ). n) (operators child) (map operators children)
    ∙ ap₂ (λ (n m : ℕ). n + m) all.0 (each-counted children all.1)
    ∙ sym (length-append (each_run (runs_in child)) (flat_map each_run (map runs_in children)))

counts : Inductive IsCounted
counts = record {
  scan = λ group prop. fold-scan operators_step group prop ∙ sym (ap (λ (r : Runs). length (each_run r)) (runs-scan group prop));
  op = λ group prop children all. fold-op operators_step group prop children ∙ ap suc (each-counted children all) ∙ sym (ap (λ (r : Runs). length (each_run r)) (runs-op group prop children));
  moved = λ mv child is. fold-moved operators_step mv child ∙ is ∙ sym (ap (λ (r : Runs). length (each_run r)) (runs-moved mv child));
  free = λ to child is. fold-free operators_step to child ∙ is ∙ sym (ap (λ (r : Runs). length (each_run r)) (runs-free to child));
}

abbrev steps_in : List (List Prop) → ℕ
steps_in runs = sum_by (λ (run : List Prop). length run) runs

module _ (groups : List Group) (costs : Costs) where
  abbrev shape : Plan → Shape
  shape = shape_of groups costs

  -- ---- each node stands in one run

  abbrev IsSpread : Plan → Type 0
  IsSpread p = (shape p).nodes ≡ steps_in (each_run (runs_in p))

  each-spread : (children : List Plan) → AllByRecursion IsSpread children → nodes_in (map shape children) ≡ steps_in (flat_map each_run (map runs_in children))
  each-spread [] all = refl
  each-spread (child ∷ children) all =
      sum_by-cons (λ (s : Shape). s.nodes) (shape child) (map shape children)
      ∙ ap₂ (λ (n m : ℕ). n + m) all.0 (each-spread children all.1)
      ∙ sym (sum_by-append (λ (run : List Prop). length run) (each_run (runs_in child)) (flat_map each_run (map runs_in children)))

  top-more : (p : Prop) (run : List Prop) (runs : List (List Prop)) → suc (steps_in (run ∷ runs)) ≡ steps_in ((p ∷ run) ∷ runs)
  top-more p run runs =
      let before = sum_by-cons (λ (r : List Prop). length r) run runs in
      let after = sum_by-cons (λ (r : List Prop). length r) (p ∷ run) runs in
      omega arith

  top-new : (p : Prop) (runs : List (List Prop)) → suc (steps_in runs) ≡ steps_in ((p ∷ []) ∷ runs)
  top-new p runs = (let after = sum_by-cons (λ (r : List Prop). length r) (p ∷ []) runs in omega arith)

  spreads : Inductive IsSpread
  spreads = record {
    scan = λ group prop. ap (λ (s : Shape). s.nodes) (fold-scan (shape_step groups costs) group prop) ∙ sym (ap (λ (r : Runs). steps_in (each_run r)) (runs-scan group prop));
    op = λ group prop children all. ap (λ (s : Shape). s.nodes) (fold-op (shape_step groups costs) group prop children) ∙ ap suc (each-spread children all)
        ∙ top-new prop (flat_map each_run (map runs_in children)) ∙ sym (ap (λ (r : Runs). steps_in (each_run r)) (runs-op group prop children));
    moved = λ mv child is. ap (λ (s : Shape). s.nodes) (fold-moved (shape_step groups costs) mv child) ∙ ap suc is
        ∙ top-more (property_after mv) (runs_in child).top (runs_in child).below ∙ sym (ap (λ (r : Runs). steps_in (each_run r)) (runs-moved mv child));
    free = λ to child is. ap (λ (s : Shape). s.nodes) (fold-free (shape_step groups costs) to child) ∙ ap suc is
        ∙ top-more to (runs_in child).top (runs_in child).below ∙ sym (ap (λ (r : Runs). steps_in (each_run r)) (runs-free to child));
  }

  -- ---- runs of plans are chains

  abbrev IsNarrow : List Prop → Type 0
  IsNarrow run = length run ≤ 2 * middle run + 1

  abbrev AreChains : Shape → Runs → Type 0
  AreChains s runs = Faultless s → IsChain s.made.prop runs.top × AllByRecursion IsNarrow runs.below

  abbrev IsChained : Plan → Type 0
  IsChained p = AreChains (shape p) (runs_in p)

  each-chained : (children : List Plan) → AllByRecursion IsChained children → AllByRecursion Faultless (map shape children) → AllByRecursion IsNarrow (flat_map each_run (map runs_in children))
  each-chained [] all none = tt
  each-chained (child ∷ children) all none =
      let chains = all.0 none.0 in
      all-append IsNarrow (each_run (runs_in child)) (flat_map each_run (map runs_in children)) (chain-any (shape child).made.prop (runs_in child).top chains.0, chains.1) (each-chained children all.1 none.1)

  chained-scan : (group : GroupId) (prop : Prop) → AreChains (shape_step groups costs (Plan-F.Scan group prop)) (record { top = prop ∷ []; below = [] })
  chained-scan group prop none = (chain-start prop, tt)

  chained-op : (group : GroupId) (prop : Prop) (children : List Plan) → AllByRecursion IsChained children → AreChains (shape_step groups costs (Plan-F.Op group prop (map shape children))) (record { top = prop ∷ []; below = flat_map each_run (map runs_in children) })
  chained-op group prop children all none =
      let allowed = node-allowed (map shape children) (is_at groups group (λ of. is_operated of (made_in (map shape children)) prop)) none in
      (chain-start prop, each-chained children all allowed.0)

  chained-moved : (mv : Move) (s : Shape) (runs : Runs) → AreChains s runs → AreChains (shape_step groups costs (Plan-F.Moved mv s)) (record { top = property_after mv ∷ runs.top; below = runs.below })
  chained-moved mv s runs chains none =
      let test : Group → Bool = λ of. is_moved of mv s.made.prop in
      let allowed = node-allowed (s ∷ []) (is_at groups s.made.group test) none in
      let there = group-there (slice_get groups s.made.group.0) test allowed.1 in
      let parts = and_parts (is_same (property_before mv) s.made.prop) (may_have there.0.interesting (property_after mv)) there.1.1 in
      let below = chains allowed.0.0 in
      (chain-moved mv runs.top (subst (λ (p : Prop). IsChain p runs.top) (sym (same-alike (property_before mv) s.made.prop parts.0)) below.0), below.1)

  chained-free : (to : Prop) (s : Shape) (runs : Runs) → AreChains s runs → AreChains (shape_step groups costs (Plan-F.Free to s)) (record { top = to ∷ runs.top; below = runs.below })
  chained-free to s runs chains none =
      let test : Group → Bool = λ of. is_freed of s.made.prop to in
      let allowed = node-allowed (s ∷ []) (is_at groups s.made.group test) none in
      let there = group-there (slice_get groups s.made.group.0) test allowed.1 in
      let parts = and_parts (is_free s.made.prop to) (may_have there.0.interesting to) there.1.1 in
      let below = chains allowed.0.0 in
      (chain-freed s.made.prop to parts.0 runs.top below.0, below.1)

  as-folds : (p : Plan) (s : Shape) (runs : Runs) → shape p ≡ s → runs_in p ≡ runs → AreChains s runs → IsChained p
  as-folds p s runs shapes is chains = subst (λ (x : Shape). AreChains x (runs_in p)) (sym shapes) (subst (λ (r : Runs). AreChains s r) (sym is) chains)

  chained : Inductive IsChained
  chained = record {
    scan = λ group prop. as-folds (plan.Scan group prop) _ _ (fold-scan (shape_step groups costs) group prop) (runs-scan group prop) (chained-scan group prop);
    op = λ group prop children all. as-folds (plan.Op group prop children) _ _ (fold-op (shape_step groups costs) group prop children) (runs-op group prop children) (chained-op group prop children all);
    moved = λ mv child chains. as-folds (plan.Moved mv child) _ _ (fold-moved (shape_step groups costs) mv child) (runs-moved mv child) (chained-moved mv (shape child) (runs_in child) chains);
    free = λ to child chains. as-folds (plan.Free to child) _ _ (fold-free (shape_step groups costs) to child) (runs-free to child) (chained-free to (shape child) (runs_in child) chains);
  }

  -- ---- short runs

  each-within : (runs : List (List Prop)) → AllByRecursion IsNarrow runs → AllByRecursion (IsDistinct is_same) runs → AllByRecursion IsWithinFour runs
  each-within [] narrow distinct = tt
  each-within (run ∷ runs) narrow distinct = (within-four run narrow.0 distinct.0, each-within runs narrow.1 distinct.1)

  pub runs-within : (p : Plan) (made : Made) → IsPlan groups costs p made → HasShortRuns p → AllByRecursion IsWithinFour (runs_of p)
  runs-within p made is short =
      let chains = by_plans IsChained chained p is.allowed in
      each-within (each_run (runs_in p)) (chain-any (shape p).made.prop (runs_in p).top chains.0, chains.1) short

  steps-most : (runs : List (List Prop)) → AllByRecursion IsWithinFour runs → steps_in runs ≤ 5 * length runs
  steps-most [] all = omega arith
  steps-most (run ∷ runs) all =
      let more = sum_by-cons (λ (r : List Prop). length r) run runs in
      let rest = steps-most runs all.1 in
      let first : length run ≤ 5 = all.0 in
      omega arith

  pub few-nodes : (p : Plan) (made : Made) → IsPlan groups costs p made → HasShortRuns p → HasFewNodes groups costs p
  few-nodes p made is short =
      let nodes = by_plans IsSpread spreads p in
      let operators_are = by_plans IsCounted counts p in
      let most = steps-most (each_run (runs_in p)) (runs-within p made is short) in
      rw (nodes, operators_are) most

  -- ---- plans that are built

  built-plan : (p : Plan) (made : Made) (bound : Option ℕ) → IsBuilt groups costs p made bound → IsPlan groups costs p made
  built-plan p made None built = absurd built
  built-plan p made (Some cost) built = built.0

  module _ (log : List Entry) (made : Made) (p : Plan) (read : IsReadOff groups costs log p made) where
    is_plan : IsPlan groups costs p made
    is_plan = built-plan p made (bounds_after log made) read.built

    pub read-within : AllByRecursion IsWithinFour (runs_of p)
    read-within = runs-within p made is_plan read.runs

    pub read-few : HasFewNodes groups costs p
    read-few = few-nodes p made is_plan read.runs
