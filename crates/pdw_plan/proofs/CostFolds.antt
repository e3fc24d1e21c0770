-- The cost of a plan, node by node.
use Rattle.std.proofs.Common.{◌≡◌, ℕ, suc, ◌+◌, ◌*◌, ◌<◌, ◌≤◌, ◌^◌, true, List, [], ◌∷◌, length, map, drop, sum, get_or, None, sym, ap, ap₂, subst, ◌∙◌, arith}
use Rattle.std.specs.List.{AllByRecursion}
use Rattle.std.proofs.lemmas.List.{drop_all, drop_more}
use Rattle.std.proofs.lemmas.List.Sums.{sum_by-cons}
use Rattle.std.proofs.lemmas.Option.{slice_get_within}
use Rattle.pdw_groups.specs.declared.group.Group.{Group}
use Rattle.pdw_groups.specs.declared.key.GroupId.{GroupId}
use Rattle.pdw_move.specs.declared.kinds.Move.{Move}
use Rattle.pdw_move.specs.declared.kinds.Prop.{Prop}
use Rattle.pdw_plan.proofs.Costless.{plans-alike}
use Rattle.pdw_plan.proofs.PlanLaw.{query-none}
use Rattle.pdw_plan.proofs.PlanParts.{at-some, children-none, fault-none, one-none}
use Rattle.pdw_plan.proofs.WalkLemmas.{sum-cons}
use Rattle.pdw_plan.specs.Count.{count_step, node_count}
use Rattle.pdw_plan.specs.Walk.{no_costs}
use Rattle.pdw_ways.proofs.PlanFolds.{fold-free, fold-moved, fold-op, fold-scan}
use Rattle.pdw_ways.specs.Shape.{Shape, cost_in, is_root, made_in, query_fault, shape_of, shape_step}
use Rattle.pdw_ways.specs.Ways.{Costs, is_at, is_freed, is_moved, is_operated}
use Rattle.pdw_ways.specs.declared.made.Made.{Made}
use Rattle.pdw_ways.specs.declared.plan.Plan.{Plan}
use Rattle.pdw_ways.specs.declared.plan.Plan.TheVariants as plan

abbrev IsWay : List Group → Plan → Type 0
IsWay groups p = (shape_of groups no_costs p).fault ≡ None

cost-cons : (s : Shape) (shapes : List Shape) → cost_in (s ∷ shapes) ≡ s.cost + cost_in shapes
cost-cons s shapes = sum_by-cons (λ (shape : Shape). shape.cost) s shapes

module _ (groups : List Group) (p : Plan) where
  abbrev shape : Plan → Shape
  shape = shape_of groups no_costs

  -- ---- scans

  module _ (group : GroupId) (prop : Prop) (is : p ≡ plan.Scan group prop) where
    pub scan-cost : (costs : Costs) → 0 ≡ (shape_of groups costs p).cost
    scan-cost costs = sym (ap (λ (s : Shape). s.cost) (ap (shape_of groups costs) is ∙ fold-scan (shape_step groups costs) group prop))

    pub scan-group : group ≡ (shape p).made.group
    scan-group = sym (ap (λ (s : Shape). s.made.group) (ap shape is ∙ fold-scan (shape_step groups no_costs) group prop))

  -- ---- operators

  module _ (group : GroupId) (prop : Prop) (children : List Plan) (is : p ≡ plan.Op group prop children) (passed : List Plan) (same : passed ≡ children) where
    pub op-cost : (costs : Costs) (cost : ℕ) → cost ≡ cost_in (map (shape_of groups costs) passed) → cost ≡ (shape_of groups costs p).cost
    op-cost costs cost at =
        at ∙ ap (λ plans. cost_in (map (shape_of groups costs) plans)) same
        ∙ sym (ap (λ (s : Shape). s.cost) (ap (shape_of groups costs) is ∙ fold-op (shape_step groups costs) group prop children))

    pub op-group : group ≡ (shape p).made.group
    op-group = sym (ap (λ (s : Shape). s.made.group) (ap shape is ∙ fold-op (shape_step groups no_costs) group prop children))

    op-nodes : node_count p ≡ suc (sum (map node_count passed))
    op-nodes = ap node_count is ∙ fold-op count_step group prop children ∙ ap (λ plans. suc (sum (map node_count plans))) (sym same)

    pub op-less : sum (map node_count passed) < node_count p
    op-less = let all = op-nodes in omega (arith, all)

    pub op-fewer : node_count p < 2 ^ 32 → sum (map node_count passed) < 2 ^ 32
    op-fewer few = let all = op-nodes in omega (arith, all, few)

    pub op-most : (cost : ℕ) → cost ≤ sum (map node_count passed) * 2 ^ 96 → cost ≤ node_count p * 2 ^ 96
    op-most cost most = let all = op-nodes in omega (arith, all, most)

    pub op-ways : IsWay groups p → AllByRecursion (IsWay groups) passed
    op-ways way =
        let shapes = map shape children in
        let parts = fault-none shapes (is_at groups group (λ of. is_operated of (made_in shapes) prop))
        (sym (ap (λ (s : Shape). s.fault) (ap shape is ∙ fold-op (shape_step groups no_costs) group prop children)) ∙ way) in
        subst (AllByRecursion (IsWay groups)) (sym same) (each children (children-none 0 shapes parts.0))
      where
        each : (plans : List Plan) → AllByRecursion (λ (s : Shape). s.fault ≡ None) (map shape plans) → AllByRecursion (IsWay groups) plans
        each [] all = tt
        each (p ∷ plans) all = (all.0, each plans all.1)

  -- ---- moves

  module _ (mv : Move) (child : Plan) (is : p ≡ plan.Moved mv child) (passed : Plan) (same : passed ≡ child) where
    moved-shape : (costs : Costs) → (shape_of groups costs p).cost ≡ (shape_of groups costs passed).cost + costs (shape_of groups costs passed).made.group mv
    moved-shape costs =
        ap (λ (s : Shape). s.cost) (ap (shape_of groups costs) is ∙ fold-moved (shape_step groups costs) mv child)
        ∙ ap (λ q. (shape_of groups costs q).cost + costs (shape_of groups costs q).made.group mv) (sym same)

    moved-nodes : node_count p ≡ suc (node_count passed)
    moved-nodes = ap node_count is ∙ fold-moved count_step mv child ∙ ap (λ q. suc (node_count q)) (sym same)

    pub moved-less : node_count passed < node_count p
    moved-less = let all = moved-nodes in omega (arith, all)

    pub moved-fewer : node_count p < 2 ^ 32 → node_count passed < 2 ^ 32
    moved-fewer few = let all = moved-nodes in omega (arith, all, few)

    moved-parts : IsWay groups p → IsWay groups child × (is_at groups (shape child).made.group (λ of. is_moved of mv (shape child).made.prop) ≡ true)
    moved-parts way =
        let parts = fault-none (shape child ∷ []) (is_at groups (shape child).made.group (λ of. is_moved of mv (shape child).made.prop))
        (sym (ap (λ (s : Shape). s.fault) (ap shape is ∙ fold-moved (shape_step groups no_costs) mv child)) ∙ way) in
        (one-none (shape child) parts.0, parts.1)

    pub moved-way : IsWay groups p → IsWay groups passed
    moved-way way = subst (IsWay groups) (sym same) (moved-parts way).0

    pub moved-group : (group : GroupId) → group ≡ (shape passed).made.group → group ≡ (shape p).made.group
    moved-group group at =
        at ∙ ap (λ q. (shape q).made.group) same ∙ sym (ap (λ (s : Shape). s.made.group) (ap shape is ∙ fold-moved (shape_step groups no_costs) mv child))

    pub moved-there : IsWay groups p → (group : GroupId) → group ≡ (shape passed).made.group → group.0 < length groups
    moved-there way group at =
        let found = at-some groups (shape child).made.group (λ of. is_moved of mv (shape child).made.prop) (moved-parts way).1 in
        let within = slice_get_within groups (shape child).made.group.0 found.group found.there in
        let number : group.0 ≡ (shape child).made.group.0 = ap (λ (g : GroupId). g.0) (at ∙ ap (λ q. (shape q).made.group) same) in
        omega (arith, within, number)

    pub moved-cost : (costs : Costs) (below added total : ℕ) (group : GroupId) → below ≡ (shape_of groups costs passed).cost → group ≡ (shape passed).made.group → added ≡ costs group mv → total ≡ below + added
        → total ≡ (shape_of groups costs p).cost
    moved-cost costs below added total group first at second all =
        let alike = (plans-alike groups no_costs costs passed).made in
        all ∙ ap₂ (λ a b. a + b) first (second ∙ ap (λ g. costs g mv) (at ∙ ap (λ (m : Made). m.group) alike)) ∙ sym (moved-shape costs)

    pub moved-fits : (below added : ℕ) → below ≤ node_count passed * 2 ^ 96 → added < 2 ^ 96 → node_count p < 2 ^ 32 → below + added < 2 ^ 128
    moved-fits below added most more few = let all = moved-nodes in omega (arith, all, most, more, few)

    pub moved-most : (below added total : ℕ) → below ≤ node_count passed * 2 ^ 96 → added < 2 ^ 96 → total ≡ below + added → total ≤ node_count p * 2 ^ 96
    moved-most below added total most more is = let all = moved-nodes in omega (arith, all, most, more, is)

  -- ---- free changes

  module _ (to : Prop) (child : Plan) (is : p ≡ plan.Free to child) (passed : Plan) (same : passed ≡ child) where
    pub free-cost : (costs : Costs) (cost : ℕ) → cost ≡ (shape_of groups costs passed).cost → cost ≡ (shape_of groups costs p).cost
    free-cost costs cost at =
        at ∙ ap (λ q. (shape_of groups costs q).cost) same ∙ sym (ap (λ (s : Shape). s.cost) (ap (shape_of groups costs) is ∙ fold-free (shape_step groups costs) to child))

    free-nodes : node_count p ≡ suc (node_count passed)
    free-nodes = ap node_count is ∙ fold-free count_step to child ∙ ap (λ q. suc (node_count q)) (sym same)

    pub free-less : node_count passed < node_count p
    free-less = let all = free-nodes in omega (arith, all)

    pub free-fewer : node_count p < 2 ^ 32 → node_count passed < 2 ^ 32
    free-fewer few = let all = free-nodes in omega (arith, all, few)

    pub free-most : (cost : ℕ) → cost ≤ node_count passed * 2 ^ 96 → cost ≤ node_count p * 2 ^ 96
    free-most cost most = let all = free-nodes in omega (arith, all, most)

    pub free-way : IsWay groups p → IsWay groups passed
    free-way way =
        let parts = fault-none (shape child ∷ []) (is_at groups (shape child).made.group (λ of. is_freed of (shape child).made.prop to))
        (sym (ap (λ (s : Shape). s.fault) (ap shape is ∙ fold-free (shape_step groups no_costs) to child)) ∙ way) in
        subst (IsWay groups) (sym same) (one-none (shape child) parts.0)

    pub free-group : (group : GroupId) → group ≡ (shape passed).made.group → group ≡ (shape p).made.group
    free-group group at =
        at ∙ ap (λ q. (shape q).made.group) same ∙ sym (ap (λ (s : Shape). s.made.group) (ap shape is ∙ fold-free (shape_step groups no_costs) to child))

  pub query-way : query_fault groups (shape p) ≡ None → IsWay groups p
  query-way none = (query-none (shape p).fault (is_root groups (shape p).made.group) _ none).0

-- ---- children, one after the other

module _ (groups : List Group) (plans : List Plan) (i : ℕ) (p : Plan) (within : i < length plans) (item : p ≡ get_or plans i p) where
  abbrev rest : List Plan
  rest = drop (i + 1) plans

  dropped : drop i plans ≡ p ∷ rest
  dropped = drop_more plans i p within ∙ ap (λ q. q ∷ rest) (sym item)

  both-nodes : sum (map node_count (drop i plans)) ≡ node_count p + sum (map node_count rest)
  both-nodes = ap (λ some. sum (map node_count some)) dropped ∙ sum-cons (node_count p) (map node_count rest)

  both-ways : AllByRecursion (IsWay groups) (drop i plans) → AllByRecursion (IsWay groups) (p ∷ rest)
  both-ways ways = subst (AllByRecursion (IsWay groups)) dropped ways

  pub item-way : AllByRecursion (IsWay groups) (drop i plans) → IsWay groups p
  item-way ways = (both-ways ways).0

  pub rest-ways : AllByRecursion (IsWay groups) (drop i plans) → AllByRecursion (IsWay groups) rest
  rest-ways ways = (both-ways ways).1

  -- the cost so far, and at most 2^96 for each node of the rest
  module _ (total cost : ℕ) (room : cost + sum (map node_count (drop i plans)) * 2 ^ 96 ≤ total * 2 ^ 96) where
    pub item-less : node_count p ≤ total
    item-less = let both = both-nodes in omega (arith, both, room)

    pub item-few : total < 2 ^ 32 → node_count p < 2 ^ 32
    item-few few = let less = item-less in omega (arith, less, few)

    pub sum-fits : (added : ℕ) → added ≤ node_count p * 2 ^ 96 → total < 2 ^ 32 → cost + added < 2 ^ 128
    sum-fits added most few = let both = both-nodes in omega (arith, both, room, most, few)

    pub next-most : (added next : ℕ) → added ≤ node_count p * 2 ^ 96 → next ≡ cost + added → next + sum (map node_count rest) * 2 ^ 96 ≤ total * 2 ^ 96
    next-most added next most is = let both = both-nodes in omega (arith, both, room, most, is)

  pub next-cost : (costs : Costs) (cost added total all : ℕ) → cost + cost_in (map (shape_of groups costs) (drop i plans)) ≡ all → added ≡ (shape_of groups costs p).cost → total ≡ cost + added
      → total + cost_in (map (shape_of groups costs) rest) ≡ all
  next-cost costs cost added total all before at is =
      let here : cost_in (map (shape_of groups costs) (drop i plans)) ≡ (shape_of groups costs p).cost + cost_in (map (shape_of groups costs) rest) =
      ap (λ some. cost_in (map (shape_of groups costs) some)) dropped ∙ cost-cons (shape_of groups costs p) (map (shape_of groups costs) rest) in
      omega (arith, before, at, is, here)

-- no child is left
pub last-cost : (groups : List Group) (plans : List Plan) (i : ℕ) → length plans ≤ i → (costs : Costs) (cost all : ℕ) → cost + cost_in (map (shape_of groups costs) (drop i plans)) ≡ all → cost ≡ all
last-cost groups plans i past costs cost all before =
    let none : cost_in (map (shape_of groups costs) (drop i plans)) ≡ 0 = ap (λ some. cost_in (map (shape_of groups costs) some)) (drop_all i plans past) in
    omega (arith, before, none)
