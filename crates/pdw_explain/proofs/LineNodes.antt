-- The lines of a plan, node by node.
use Rattle.std.proofs.Common.{◌≡◌, ℕ, ◌+◌, ◌<◌, ◌≤◌, ◌^◌, List, [], ◌∷◌, ◌++◌, length, map, drop, sum, get_or, None, append_assoc, append-nil, arith, refl, sym, ap, ap₂, ◌∙◌}
use Rattle.std.specs.List.{AllByRecursion}
use Rattle.std.proofs.lemmas.List.{drop_all, drop_more}
use Rattle.pdw_answer.specs.declared.plan_text.PlanLine.{PlanLine}
use Rattle.pdw_explain.specs.Lines.{Explained, Flows, explained_node, explained_step, free_line, lines_in, made_in, move_line, operator_lines}
use Rattle.pdw_explain.specs.Makes.{makes, makes_step}
use Rattle.pdw_groups.specs.declared.group.Group.{Group}
use Rattle.pdw_groups.specs.declared.key.GroupId.{GroupId}
use Rattle.pdw_move.specs.Move.{property_after}
use Rattle.pdw_move.specs.declared.kinds.Move.{Move}
use Rattle.pdw_move.specs.declared.kinds.Prop.{Prop}
use Rattle.pdw_plan.proofs.WalkLemmas.{sum-cons}
use Rattle.pdw_plan.specs.Count.{node_count}
use Rattle.pdw_plan.specs.Given.{expr_over}
use Rattle.pdw_ways.proofs.PlanFolds.{Inductive, by_plans, fold-free, fold-moved, fold-op, fold-scan}
use Rattle.pdw_ways.specs.Shape.{Shape, shape_of, shape_step}
use Rattle.pdw_ways.specs.Ways.{Costs}
use Rattle.pdw_ways.specs.declared.made.Made.{Made}
use Rattle.pdw_ways.specs.declared.plan.Plan.{Plan}
use Rattle.pdw_ways.specs.declared.plan.Plan.TheVariants as plan

-- ---- what plans make

abbrev after : Prop → Made → Made
after prop made = record { group = made.group; prop = prop }

pub makes-shape : (groups : List Group) (costs : Costs) (p : Plan) → makes p ≡ (shape_of groups costs p).made
makes-shape groups costs = by_plans (λ p. makes p ≡ (shape_of groups costs p).made) (record {
  scan = λ group prop. fold-scan makes_step group prop ∙ sym (ap (λ (s : Shape). s.made) (fold-scan (shape_step groups costs) group prop));
  op = λ group prop children all. fold-op makes_step group prop children ∙ sym (ap (λ (s : Shape). s.made) (fold-op (shape_step groups costs) group prop children));
  moved = λ mv child holds. fold-moved makes_step mv child ∙ ap (after (property_after mv)) holds ∙ sym (ap (λ (s : Shape). s.made) (fold-moved (shape_step groups costs) mv child));
  free = λ to child holds. fold-free makes_step to child ∙ ap (after to) holds ∙ sym (ap (λ (s : Shape). s.made) (fold-free (shape_step groups costs) to child));
})

module _ (groups : List Group) (flows : Flows) where
  abbrev node : Plan → Explained
  node = explained_node groups flows

  pub makes-same : (p : Plan) → (node p).made ≡ makes p
  makes-same = by_plans (λ p. (node p).made ≡ makes p) (record {
    scan = λ group prop. ap (λ (e : Explained). e.made) (fold-scan (explained_step groups flows) group prop) ∙ sym (fold-scan makes_step group prop);
    op = λ group prop children all. ap (λ (e : Explained). e.made) (fold-op (explained_step groups flows) group prop children) ∙ sym (fold-op makes_step group prop children);
    moved = λ mv child holds. ap (λ (e : Explained). e.made) (fold-moved (explained_step groups flows) mv child) ∙ ap (after (property_after mv)) holds ∙ sym (fold-moved makes_step mv child);
    free = λ to child holds. ap (λ (e : Explained). e.made) (fold-free (explained_step groups flows) to child) ∙ ap (after to) holds ∙ sym (fold-free makes_step to child);
  })

  all-same : (plans : List Plan) → made_in (map node plans) ≡ map makes plans
  all-same [] = refl
  all-same (p ∷ plans) = ap₂ (λ made rest. made ∷ rest) (makes-same p) (all-same plans)

  -- ---- nodes

  module _ (p : Plan) (depth : ℕ) (old new : List PlanLine) where
    pub scan-lines : (group : GroupId) (prop : Prop) → p ≡ plan.Scan group prop → new ≡ old ++ operator_lines depth (record { group = group; prop = prop }) (expr_over groups group []) → new ≡ old ++ (node p).lines depth
    scan-lines group prop is at = at ∙ ap (λ (e : Explained). old ++ e.lines depth) (sym (ap node is ∙ fold-scan (explained_step groups flows) group prop))

    -- a node's own lines first
    module _ (mid : List PlanLine) where
      pub op-lines : (group : GroupId) (prop : Prop) (children : List Plan) → p ≡ plan.Op group prop children → (passed : List Plan) → passed ≡ children
          → mid ≡ old ++ operator_lines depth (record { group = group; prop = prop }) (expr_over groups group (map makes passed)) → new ≡ mid ++ lines_in (depth + 1) (map node passed) → new ≡ old ++ (node p).lines depth
      op-lines group prop children is passed same first second =
          let own : List Made → List PlanLine = λ below. operator_lines depth (record { group = group; prop = prop }) (expr_over groups group below) in
          second
          ∙ ap (λ lines. lines ++ lines_in (depth + 1) (map node passed)) first
          ∙ append_assoc old (own (map makes passed)) (lines_in (depth + 1) (map node passed))
          ∙ ap (λ below. old ++ (own below ++ lines_in (depth + 1) (map node passed))) (sym (all-same passed))
          ∙ ap (λ plans. old ++ (own (made_in (map node plans)) ++ lines_in (depth + 1) (map node plans))) same
          ∙ ap (λ (e : Explained). old ++ e.lines depth) (sym (ap node is ∙ fold-op (explained_step groups flows) group prop children))

      pub moved-lines : (mv : Move) (child : Plan) → p ≡ plan.Moved mv child → (passed : Plan) → passed ≡ child → (made : Made) → made ≡ makes passed → (line : PlanLine) → line ≡ move_line depth made.group mv (flows made.group mv)
          → mid ≡ old ++ line ∷ [] → new ≡ mid ++ (node passed).lines (depth + 1) → new ≡ old ++ (node p).lines depth
      moved-lines mv child is passed same made makes line at first second =
          let whole : Made → Plan → List PlanLine = λ made q. move_line depth made.group mv (flows made.group mv) ∷ (node q).lines (depth + 1) in
          second
          ∙ ap (λ lines. lines ++ (node passed).lines (depth + 1)) first
          ∙ append_assoc old (line ∷ []) ((node passed).lines (depth + 1))
          ∙ ap (λ line. old ++ (line ∷ (node passed).lines (depth + 1))) at
          ∙ ap (λ made. old ++ whole made passed) (makes ∙ sym (makes-same passed))
          ∙ ap (λ q. old ++ whole (node q).made q) same
          ∙ ap (λ (e : Explained). old ++ e.lines depth) (sym (ap node is ∙ fold-moved (explained_step groups flows) mv child))

      pub free-lines : (to : Prop) (child : Plan) → p ≡ plan.Free to child → (passed : Plan) → passed ≡ child → (made : Made) → made ≡ makes passed → (line : PlanLine) → line ≡ free_line depth made.group to
          → mid ≡ old ++ line ∷ [] → new ≡ mid ++ (node passed).lines (depth + 1) → new ≡ old ++ (node p).lines depth
      free-lines to child is passed same made makes line at first second =
          let whole : Made → Plan → List PlanLine = λ made q. free_line depth made.group to ∷ (node q).lines (depth + 1) in
          second
          ∙ ap (λ lines. lines ++ (node passed).lines (depth + 1)) first
          ∙ append_assoc old (line ∷ []) ((node passed).lines (depth + 1))
          ∙ ap (λ line. old ++ (line ∷ (node passed).lines (depth + 1))) at
          ∙ ap (λ made. old ++ whole made passed) (makes ∙ sym (makes-same passed))
          ∙ ap (λ q. old ++ whole (node q).made q) same
          ∙ ap (λ (e : Explained). old ++ e.lines depth) (sym (ap node is ∙ fold-free (explained_step groups flows) to child))

  -- ---- children, one after the other

  module _ (plans : List Plan) (i : ℕ) (p : Plan) (within : i < length plans) (item : p ≡ get_or plans i p) where
    dropped : drop i plans ≡ p ∷ drop (i + 1) plans
    dropped = drop_more plans i p within ∙ ap (λ q. q ∷ drop (i + 1) plans) (sym item)

    pub next-lines : (depth : ℕ) (lines new all : List PlanLine) → lines ++ lines_in depth (map node (drop i plans)) ≡ all → new ≡ lines ++ (node p).lines depth → new ++ lines_in depth (map node (drop (i + 1) plans)) ≡ all
    next-lines depth lines new all before at =
        ap (λ lines. lines ++ lines_in depth (map node (drop (i + 1) plans))) at
        ∙ append_assoc lines ((node p).lines depth) (lines_in depth (map node (drop (i + 1) plans)))
        ∙ ap (λ plans. lines ++ lines_in depth (map node plans)) (sym dropped)
        ∙ before

  pub last-lines : (plans : List Plan) (i : ℕ) → length plans ≤ i → (depth : ℕ) (lines all : List PlanLine) → lines ++ lines_in depth (map node (drop i plans)) ≡ all → lines ≡ all
  last-lines plans i past depth lines all before = sym (append-nil lines) ∙ ap (λ plans. lines ++ lines_in depth (map node plans)) (sym (drop_all i plans past)) ∙ before

-- ---- how many nodes

module _ (plans : List Plan) (i : ℕ) (p : Plan) (within : i < length plans) (item : p ≡ get_or plans i p) where
  both-nodes : sum (map node_count (drop i plans)) ≡ node_count p + sum (map node_count (drop (i + 1) plans))
  both-nodes = ap (λ plans. sum (map node_count plans)) (drop_more plans i p within ∙ ap (λ q. q ∷ drop (i + 1) plans) (sym item)) ∙ sum-cons (node_count p) (map node_count (drop (i + 1) plans))

  pub item-less : (total : ℕ) → sum (map node_count (drop i plans)) ≤ total → node_count p ≤ total
  item-less total most = let both = both-nodes in omega (arith, both, most)

  pub rest-less : (total : ℕ) → sum (map node_count (drop i plans)) ≤ total → sum (map node_count (drop (i + 1) plans)) ≤ total
  rest-less total most = let both = both-nodes in omega (arith, both, most)
