-- The walk over a plan, node by node.
use Rattle.std.proofs.Common.{◌≡◌, ℕ, suc, ◌+◌, ◌^◌, ◌<◌, Bool, List, [], ◌∷◌, length, map, drop, sum, get_or, Some, None, Result, Ok, Err, refl, sym, ap, ap₂, ◌∙◌, arith, if◌then◌else◌}
use Rattle.std.specs.Option.{option_map, option_or}
use Rattle.std.proofs.lemmas.List.{drop_more}
use Rattle.pdw_groups.specs.declared.group.Group.{Group}
use Rattle.pdw_groups.specs.declared.key.GroupId.{GroupId}
use Rattle.pdw_move.specs.Move.{property_after}
use Rattle.pdw_move.specs.declared.kinds.Move.{Move}
use Rattle.pdw_move.specs.declared.kinds.Prop.{Prop}
use Rattle.pdw_plan.proofs.WalkLemmas.{all-of, fault-first, node-walked, nodes-all, nodes-counted, ok-all, ok-walked, operated-at, sum-cons}
use Rattle.pdw_plan.specs.Count.{count_step, node_count}
use Rattle.pdw_plan.specs.Walk.{all_walked, children_of, no_costs, operated, unless, walked, with_child}
use Rattle.pdw_plan.specs.declared.node.Children.{Children}
use Rattle.pdw_plan.specs.declared.node.Children.TheVariants.{Nothing}
use Rattle.pdw_plan.specs.declared.walk.Below.{Below}
use Rattle.pdw_plan.specs.declared.walk.Walked.{Walked}
use Rattle.pdw_ways.proofs.PlanFolds.{fold-free, fold-moved, fold-op}
use Rattle.pdw_ways.specs.Shape.{Shape, cost_in, fault_after, fault_at, made_in, nodes_in, shape_of, shape_step}
use Rattle.pdw_ways.specs.Ways.{is_at, is_freed, is_moved, is_operated}
use Rattle.pdw_ways.specs.declared.made.Made.{Made}
use Rattle.pdw_ways.specs.declared.plan.Plan.{Plan}
use Rattle.pdw_ways.specs.declared.plan.Plan.TheVariants as plan
use Rattle.pdw_ways.specs.declared.plan.PlanFault.{PlanFault}

-- what a node answers that is numbered so
abbrev answered : Bool → Made → ℕ → Result Walked PlanFault
answered is_way made number = unless (if is_way then None else Some number) (Ok (record { made = made; next = suc number }))

module _ (groups : List Group) (before : ℕ) (p : Plan) where
  abbrev shape : Plan → Shape
  shape = shape_of groups no_costs

  abbrev shapes_of : List Plan → List Shape
  shapes_of plans = map shape plans

  -- ---- operators

  module _ (group : GroupId) (prop : Prop) (children : List Plan) (is : p ≡ plan.Op group prop children) (passed : List Plan) (same : passed ≡ children) where
    op-shape : shape p ≡ record {
      made = record { group = group; prop = prop };
      nodes = suc (nodes_in (shapes_of passed));
      fault = fault_at (shapes_of passed) (is_at groups group (λ of. is_operated of (made_in (shapes_of passed)) prop));
      cost = cost_in (shapes_of passed);
    }
    op-shape =
        let of : List Plan → Shape = λ plans. record {
          made = record { group = group; prop = prop };
          nodes = suc (nodes_in (shapes_of plans));
          fault = fault_at (shapes_of plans) (is_at groups group (λ of. is_operated of (made_in (shapes_of plans)) prop));
          cost = cost_in (shapes_of plans);
        } in
        ap shape is ∙ fold-op (shape_step groups no_costs) group prop children ∙ ap of (sym same)

    op-count : node_count p ≡ suc (sum (map node_count passed))
    op-count = ap node_count is ∙ fold-op count_step group prop children ∙ ap (λ plans. suc (sum (map node_count plans))) (sym same)

    pub op-fault : (e : PlanFault) → Err e ≡ all_walked (record { children = Nothing; next = before }) (shapes_of passed) → Err e ≡ walked before (shape p)
    op-fault e fault =
        fault-first before (fault_after 0 (shapes_of passed)) (if is_at groups group (λ of. is_operated of (made_in (shapes_of passed)) prop) then None else Some (nodes_in (shapes_of passed))) _ _ e (fault ∙ all-of before (shapes_of passed))
        ∙ ap (walked before) (sym op-shape)

    module _ (below : Below) (ok : Ok below ≡ all_walked (record { children = Nothing; next = before }) (shapes_of passed)) where
      pub op-few : before + node_count p < 2 ^ 32 → suc below.next < 2 ^ 32
      op-few few =
          let next : below.next ≡ before + nodes_in (shapes_of passed) = ap (λ (b : Below). b.next) (ok-all before (shapes_of passed) below ok).1 in
          let nodes = nodes-all groups no_costs passed in
          let all = op-count in
          omega (arith, next, nodes, all, few)

      pub op-walked : (is_way : Bool) → is_way ≡ is_at groups group (operated below.children prop) → (result : Result Walked PlanFault)
          → result ≡ answered is_way (record { group = group; prop = prop }) below.next → result ≡ walked before (shape p)
      op-walked is_way test result at =
          let shapes = shapes_of passed in
          let done = ok-all before shapes below ok in
          let kept : below.children ≡ children_of (made_in shapes) = ap (λ (b : Below). b.children) done.1 in
          let way : is_way ≡ is_at groups group (λ of. is_operated of (made_in shapes) prop) = test ∙ ap (λ some. is_at groups group (operated some prop)) kept ∙ operated-at groups group (made_in shapes) prop in
          let of : Bool → Shape = λ way. record { made = record { group = group; prop = prop }; nodes = suc (nodes_in shapes); fault = fault_at shapes way; cost = cost_in shapes } in
          node-walked before shapes is_way (record { group = group; prop = prop }) (nodes_in shapes) (cost_in shapes) below.next done.0 refl (ap (λ (b : Below). b.next) done.1) result at
          ∙ ap (λ way. walked before (of way)) way
          ∙ ap (walked before) (sym op-shape)

  -- ---- moves and free changes

  -- a node over one child
  module _ (child passed : Plan) (same : passed ≡ child) (below : Walked) (ok : Ok below ≡ walked before (shape passed)) where
    done : ((shape child).fault ≡ None) × (below ≡ record { made = (shape child).made; next = before + (shape child).nodes })
    done = ok-walked before (shape child) below (ok ∙ ap (λ q. walked before (shape q)) same)

    pub one-few : node_count p ≡ suc (node_count child) → before + node_count p < 2 ^ 32 → suc below.next < 2 ^ 32
    one-few count few =
        let next : below.next ≡ before + (shape child).nodes = ap (λ (b : Walked). b.next) done.1 in
        let nodes = nodes-counted groups no_costs child in
        omega (arith, next, nodes, count, few)

    one-walked : (is_way : Bool) (made : Made) (cost : ℕ) (result : Result Walked PlanFault) → result ≡ answered is_way made below.next
        → result ≡ walked before (record { made = made; nodes = suc (shape child).nodes; fault = fault_at (shape child ∷ []) is_way; cost = cost })
    one-walked is_way made cost result at =
        let s = shape child in
        let none : fault_after 0 (s ∷ []) ≡ None = ap (λ fault. option_or (option_map (λ node. 0 + node) fault) None) done.0 in
        let count : s.nodes ≡ nodes_in (s ∷ []) = let sum : nodes_in (s ∷ []) ≡ 0 + s.nodes = refl in omega (arith, sum) in
        node-walked before (s ∷ []) is_way made s.nodes cost below.next none count (ap (λ (b : Walked). b.next) done.1) result at

    made-same : below.made ≡ (shape child).made
    made-same = ap (λ (b : Walked). b.made) done.1

    pub moved-walked : (mv : Move) → p ≡ plan.Moved mv child → (to : Prop) → to ≡ property_after mv → (is_way : Bool) → is_way ≡ is_at groups below.made.group (λ of. is_moved of mv below.made.prop)
        → (result : Result Walked PlanFault) → result ≡ answered is_way (record { group = below.made.group; prop = to }) below.next → result ≡ walked before (shape p)
    moved-walked mv is to after is_way test result at =
        let s = shape child in
        let of : Made → Bool → Prop → Shape = λ made way to. record { made = record { group = made.group; prop = to }; nodes = suc s.nodes; fault = fault_at (s ∷ []) way; cost = s.cost + 0 } in
        one-walked is_way (record { group = below.made.group; prop = to }) (s.cost + 0) result at
        ∙ ap (λ way. walked before (of below.made way to)) test
        ∙ ap (λ made. walked before (of made (is_at groups made.group (λ of. is_moved of mv made.prop)) to)) made-same
        ∙ ap (λ to. walked before (of s.made (is_at groups s.made.group (λ of. is_moved of mv s.made.prop)) to)) after
        ∙ ap (walked before) (sym (ap shape is ∙ fold-moved (shape_step groups no_costs) mv child))

    pub moved-few : (mv : Move) → p ≡ plan.Moved mv child → before + node_count p < 2 ^ 32 → suc below.next < 2 ^ 32
    moved-few mv is few = one-few (ap node_count is ∙ fold-moved count_step mv child) few

    pub free-walked : (to : Prop) → p ≡ plan.Free to child → (is_way : Bool) → is_way ≡ is_at groups below.made.group (λ of. is_freed of below.made.prop to)
        → (result : Result Walked PlanFault) → result ≡ answered is_way (record { group = below.made.group; prop = to }) below.next → result ≡ walked before (shape p)
    free-walked to is is_way test result at =
        let s = shape child in
        let of : Made → Bool → Shape = λ made way. record { made = record { group = made.group; prop = to }; nodes = suc s.nodes; fault = fault_at (s ∷ []) way; cost = s.cost } in
        one-walked is_way (record { group = below.made.group; prop = to }) s.cost result at
        ∙ ap (λ way. walked before (of below.made way)) test
        ∙ ap (λ made. walked before (of made (is_at groups made.group (λ of. is_freed of made.prop to)))) made-same
        ∙ ap (walked before) (sym (ap shape is ∙ fold-free (shape_step groups no_costs) to child))

    pub free-few : (to : Prop) → p ≡ plan.Free to child → before + node_count p < 2 ^ 32 → suc below.next < 2 ^ 32
    free-few to is few = one-few (ap node_count is ∙ fold-free count_step to child) few

-- ---- children, one after the other

module _ (groups : List Group) (plans : List Plan) (i : ℕ) (p : Plan) (within : i < length plans) (item : p ≡ get_or plans i p) where
  abbrev rest : List Plan
  rest = drop (i + 1) plans

  dropped : drop i plans ≡ p ∷ rest
  dropped = drop_more plans i p within ∙ ap (λ q. q ∷ rest) (sym item)

  module _ (below : Below) (w : Walked) (ok : Ok w ≡ walked below.next (shape_of groups no_costs p)) where
    pub next-is : (more : Children) → more ≡ with_child below.children w.made → (answer : Result Below PlanFault) → all_walked below (map (shape_of groups no_costs) (drop i plans)) ≡ answer
        → all_walked (record { children = more; next = w.next }) (map (shape_of groups no_costs) rest) ≡ answer
    next-is some with answer is =
        let s = shape_of groups no_costs p in
        let shapes = map (shape_of groups no_costs) rest in
        let done = ok-walked below.next s w ok in
        let after : Children → ℕ → Result Below PlanFault = λ some next. all_walked (record { children = some; next = next }) shapes in
        ap₂ after (with ∙ ap (λ (w : Walked). with_child below.children w.made) done.1) (ap (λ (w : Walked). w.next) done.1)
        ∙ ap (λ fault. unless (option_map (λ node. below.next + node) fault) (after (with_child below.children s.made) (below.next + s.nodes))) (sym done.0)
        ∙ ap (λ some. all_walked below (map (shape_of groups no_costs) some)) (sym dropped)
        ∙ is

    pub next-room : below.next + sum (map node_count (drop i plans)) < 2 ^ 32 → w.next + sum (map node_count rest) < 2 ^ 32
    next-room room =
        let here : sum (map node_count (drop i plans)) ≡ node_count p + sum (map node_count rest) = ap (λ some. sum (map node_count some)) dropped ∙ sum-cons (node_count p) (map node_count rest) in
        let next : w.next ≡ below.next + (shape_of groups no_costs p).nodes = ap (λ (w : Walked). w.next) (ok-walked below.next (shape_of groups no_costs p) w ok).1 in
        let nodes = nodes-counted groups no_costs p in
        omega (arith, room, here, next, nodes)
