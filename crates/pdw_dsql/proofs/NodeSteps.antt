-- One node of a plan that is cut: what is asked of its children, and what they leave for it.
use Rattle.std.proofs.Common.{◌≡◌, ℕ, suc, ◌+◌, ◌<◌, ◌≤◌, ◌^◌, true, true≢false, List, [], ◌∷◌, ◌++◌, length, map, sum, get_or, is_some, Some, None, Result, Ok, Err, IfOk, refl, sym, ap, ap₂, subst, ◌∙◌, append_assoc, append-nil, length-append, arith, ◌⊎◌, inl, inr}
use Rattle.std.specs.List.{AllByRecursion, list_any}
use Rattle.std.specs.Result.{OnOk}
use Rattle.std.proofs.lemmas.Bool.{and_parts}
use Rattle.std.proofs.lemmas.List.Sums.{sum_by-cons}
use Rattle.pdw_algebra.specs.declared.local.LocalTree.TheVariants as tree
use Rattle.pdw_algebra.specs.declared.local.LocalTree.{LocalTree}
use Rattle.pdw_dsql.proofs.Applied.{IsApplied, rule-arity}
use Rattle.pdw_dsql.proofs.PlanSteps.{cut-made, cuts-made}
use Rattle.pdw_dsql.specs.Steps.{Cutting, cut_step, cutting, fragments_after, made_of, next_temp, step_of}
use Rattle.pdw_dsql.specs.Trees.{arity, tree_of}
use Rattle.pdw_dsql.specs.declared.cutting.Branch.{Branch}
use Rattle.pdw_dsql.specs.declared.steps.Step.{Step}
use Rattle.pdw_groups.specs.Memo.{Contents}
use Rattle.pdw_groups.specs.declared.group.Expr.{Expr}
use Rattle.pdw_groups.specs.declared.group.Group.{Group}
use Rattle.pdw_groups.specs.declared.key.GroupId.{GroupId}
use Rattle.pdw_move.specs.declared.kinds.Move.{Move}
use Rattle.pdw_move.specs.declared.kinds.Prop.{Prop}
use Rattle.pdw_plan.proofs.PlanParts.{any-at, at-some, fault-none, one-none, operates-parts, two-none}
use Rattle.pdw_plan.specs.Count.{count_step, node_count}
use Rattle.pdw_plan.specs.Given.{expr_over}
use Rattle.pdw_plan.specs.Walk.{no_costs}
use Rattle.pdw_rules.specs.Rules.{may_have}
use Rattle.pdw_ways.proofs.PlanFolds.{by_plans, fold-free, fold-moved, fold-op, fold-scan}
use Rattle.pdw_ways.specs.Shape.{Shape, fault_after, made_in, shape_of, shape_step}
use Rattle.pdw_ways.specs.Ways.{is_at, is_at_some, is_freed, is_moved, is_operated, operates}
use Rattle.pdw_ways.specs.declared.made.Made.{Made}
use Rattle.pdw_ways.specs.declared.plan.Plan.TheOpen.{Plan-F}
use Rattle.pdw_ways.specs.declared.plan.Plan.TheVariants as plan
use Rattle.pdw_ways.specs.declared.plan.Plan.{Plan}

-- ---- lists by their lengths, and answers

pub one_item : {X : Type 0} (xs : List X) (a : X) → 1 ≤ length xs → length xs < 2 → a ≡ get_or xs 0 a → xs ≡ a ∷ []
one_item [] a some most first = absurd (omega arith)
one_item (x ∷ []) a some most first = λ i. sym first i ∷ []
one_item (x ∷ y ∷ xs) a some most first = absurd (omega arith)

pub two_items : {X : Type 0} (xs : List X) (a b : X) → 2 ≤ length xs → length xs < 3 → a ≡ get_or xs 0 a → b ≡ get_or xs 1 b → xs ≡ a ∷ b ∷ []
two_items [] a b some most first second = absurd (omega arith)
two_items (x ∷ []) a b some most first second = absurd (omega arith)
two_items (x ∷ y ∷ []) a b some most first second = λ i. sym first i ∷ sym second i ∷ []
two_items (x ∷ y ∷ z ∷ xs) a b some most first second = absurd (omega arith)

pub if-done : {T E : Type 0} (P : Type 0) (r : Result T E) → P → OnOk r P
if-done P (Ok x) p = p
if-done P (Err e) p = tt

pub same-tree : {E : Type 0} (r : Result Branch E) (t u : LocalTree) → t ≡ u → IfOk r (λ (b : Branch). b.tree ≡ t) → IfOk r (λ (b : Branch). b.tree ≡ u)
same-tree (Ok b) t u same is = is ∙ same
same-tree (Err e) t u same is = tt

-- ---- the expression that is found

module _ (memo : Contents) (group : GroupId) (below : List Made) (result : Prop) (applied : IsApplied memo group below result) (groups : List Group) (same : groups ≡ memo.groups) where
  found-here : expr_over groups group below ≡ Some applied.expr
  found-here = ap (λ groups. expr_over groups group below) same ∙ applied.found

  pub found-arity : (expr : Expr) → Some expr ≡ expr_over groups group below → arity expr.op ≡ length (map (λ (m : Made). m.prop) below)
  found-arity expr is =
      let both : Some expr ≡ Some applied.expr = is ∙ found-here in
      let is_expr : expr ≡ applied.expr = cc in
      ap (λ (e : Expr). arity e.op) is_expr ∙ rule-arity applied.expr.op (map (λ (m : Made). m.prop) below) result applied.rule

  pub found-none : {X : Type 0} → None ≡ expr_over groups group below → X
  found-none none = absurd (true≢false (ap is_some (sym (none ∙ found-here))))

-- ---- how many steps a plan has

sum-cons : (n : ℕ) (ns : List ℕ) → sum (n ∷ ns) ≡ n + sum ns
sum-cons n ns = sum_by-cons (λ x. x) n ns

module _ (groups : List Group) where
  abbrev cut : Plan → Cutting
  cut = cutting groups

  abbrev FewSteps : ℕ → Cutting → Type 0
  FewSteps n c = (before : ℕ) → length (c.fragment before).steps ≤ n

  all-few : (plans : List Plan) → AllByRecursion (λ p. FewSteps (node_count p) (cut p)) plans → (before : ℕ) → length (fragments_after (map cut plans) before).steps ≤ sum (map node_count plans)
  all-few [] all before = omega arith
  all-few (p ∷ plans) all before =
      let steps = ((cut p).fragment before).steps in
      let more = (fragments_after (map cut plans) (before + length steps)).steps in
      let both = length-append steps more in
      let own = all.0 before in
      let rest = all-few plans all.1 (before + length steps) in
      let count = sum-cons (node_count p) (map node_count plans) in
      omega (arith, both, own, rest, count)

  pub few-steps : (p : Plan) → FewSteps (node_count p) (cut p)
  few-steps = by_plans (λ p. FewSteps (node_count p) (cut p)) (record {
    scan = λ group prop. subst (FewSteps (node_count (plan.Scan group prop))) (sym (fold-scan (cut_step groups) group prop)) (λ before. omega arith);
    op = λ group prop children all.
        subst (FewSteps (node_count (plan.Op group prop children))) (sym (fold-op (cut_step groups) group prop children))
        (λ before. let few = all-few children all before in let count = fold-op count_step group prop children in omega (arith, few, count));
    moved = λ mv child holds.
        subst (FewSteps (node_count (plan.Moved mv child))) (sym (fold-moved (cut_step groups) mv child))
        (λ before.
        let f = (cut child).fragment before in
        let both = length-append f.steps (step_of groups (cut child).made mv f.tree (next_temp before f.steps) ∷ []) in
        let few = holds before in
        let count = fold-moved count_step mv child in
        omega (arith, both, few, count));
    free = λ to child holds.
        subst (FewSteps (node_count (plan.Free to child))) (sym (fold-free (cut_step groups) to child))
        (λ before. let few = holds before in let count = fold-free count_step to child in omega (arith, few, count));
  })

-- ---- operators

-- what is asked to cut a child
pub record IsCalled (groups : List Group) (p child : Plan) (now : ℕ) : Type 0 where
  pub less : node_count child < node_count p
  pub well : (shape_of groups no_costs child).fault ≡ None
  pub room : now + node_count child < 2 ^ 32

module _ (groups : List Group) (p : Plan) where
  abbrev pieces : Plan → Cutting
  pieces = cutting groups

  abbrev shape : Plan → Shape
  shape = shape_of groups no_costs

  module _ (group : GroupId) (prop : Prop) (children : List Plan) (is : p ≡ plan.Op group prop children) (passed : List Plan) (same : passed ≡ children) where
    op-cut : pieces p ≡ cut_step groups (Plan-F.Op group prop (map pieces passed))
    op-cut = ap pieces is ∙ fold-op (cut_step groups) group prop children ∙ ap (λ some. cut_step groups (Plan-F.Op group prop (map pieces some))) (sym same)

    op-nodes : node_count p ≡ suc (sum (map node_count passed))
    op-nodes = ap node_count is ∙ fold-op count_step group prop children ∙ ap (λ some. suc (sum (map node_count some))) (sym same)

    module _ (well : (shape p).fault ≡ None) where
      op-parts : (fault_after 0 (map shape passed) ≡ None) × (is_at groups group (λ of. is_operated of (made_in (map shape passed)) prop) ≡ true)
      op-parts =
          subst (λ some. (fault_after 0 (map shape some) ≡ None) × (is_at groups group (λ of. is_operated of (made_in (map shape some)) prop) ≡ true)) (sym same)
          (fault-none (map shape children) (is_at groups group (λ of. is_operated of (made_in (map shape children)) prop))
          (sym (ap (λ (s : Shape). s.fault) (ap shape is ∙ fold-op (shape_step groups no_costs) group prop children)) ∙ well))

      op-way : (some : List Plan) → passed ≡ some → is_at groups group (λ of. is_operated of (made_of (map pieces some)) prop) ≡ true
      op-way some are =
          ap (λ below. is_at groups group (λ of. is_operated of below prop)) (cuts-made groups no_costs some)
          ∙ ap (λ some. is_at groups group (λ of. is_operated of (made_in (map shape some)) prop)) (sym are) ∙ op-parts.1

      -- no operator is over none, nor over more than two
      op-rule : (some : List Plan) → passed ≡ some → (expr : Expr) → operates (made_in (map shape some)) prop expr ≡ true → (1 ≤ length some) × (length some < 3)
      op-rule [] are expr passes = absurd (true≢false (sym passes))
      op-rule (a ∷ []) are expr passes = (omega arith, omega arith)
      op-rule (a ∷ b ∷ []) are expr passes = (omega arith, omega arith)
      op-rule (a ∷ b ∷ c ∷ some) are expr passes =
          absurd (true≢false (sym (operates-parts (made_in (map shape (a ∷ b ∷ c ∷ some))) prop expr passes).1))

      pub op-counted-at : (1 ≤ length passed) × (length passed < 3)
      op-counted-at =
          let found = at-some groups group (λ of. is_operated of (made_in (map shape passed)) prop) op-parts.1 in
          let some = any-at (operates (made_in (map shape passed)) prop) found.group.exprs
          (and_parts (may_have found.group.interesting prop) (list_any (operates (made_in (map shape passed)) prop) found.group.exprs) found.passes).1 in
          op-rule passed refl some.item some.passes

      pub op-counted : (length passed < 1) ⊎ (3 ≤ length passed) → ⊥
      op-counted (inl none) = let some = op-counted-at.0 in absurd (omega (arith, none, some))
      op-counted (inr many) = let few = op-counted-at.1 in absurd (omega (arith, many, few))

    module _ (only : Plan) (one : passed ≡ only ∷ []) where
      pub one-way : (shape p).fault ≡ None → (made : Made) → made ≡ (pieces only).made → is_at groups group (λ of. is_operated of (made ∷ []) prop) ≡ true
      one-way well made is_made = ap (λ m. is_at groups group (λ of. is_operated of (m ∷ []) prop)) is_made ∙ op-way well (only ∷ []) one

      one-cut : pieces p ≡ cut_step groups (Plan-F.Op group prop (pieces only ∷ []))
      one-cut = op-cut ∙ ap (λ some. cut_step groups (Plan-F.Op group prop (map pieces some))) one

      pub one-called : (shape p).fault ≡ None → (before : ℕ) → before + node_count p < 2 ^ 32 → IsCalled groups p only before
      one-called well before room =
          let first = sum-cons (node_count only) [] in
          let all = op-nodes ∙ ap (λ some. suc (sum (map node_count some))) one in
          record {
            less = omega (arith, first, all);
            well = one-none (shape only) (subst (λ some. fault_after 0 (map shape some) ≡ None) one (op-parts well).0);
            room = omega (arith, first, all, room);
          }

      pub one-steps : (before now : List Step) → now ≡ before ++ ((pieces only).fragment (length before)).steps → now ≡ before ++ ((pieces p).fragment (length before)).steps
      one-steps before now at =
          at ∙ ap (λ steps. before ++ steps) (sym (append-nil ((pieces only).fragment (length before)).steps) ∙ sym (ap (λ (c : Cutting). (c.fragment (length before)).steps) one-cut))

      pub one-tree : (n : ℕ) (child : Branch) → child.made ≡ (pieces only).made → child.tree ≡ ((pieces only).fragment n).tree → tree_of (expr_over groups group (child.made ∷ [])) (child.tree ∷ []) ≡ ((pieces p).fragment n).tree
      one-tree n child made at = ap₂ (λ m t. tree_of (expr_over groups group (m ∷ [])) (t ∷ [])) made at ∙ sym (ap (λ (c : Cutting). (c.fragment n).tree) one-cut)

    module _ (left right : Plan) (two : passed ≡ left ∷ right ∷ []) where
      pub two-way : (shape p).fault ≡ None → (l r : Made) → l ≡ (pieces left).made → r ≡ (pieces right).made → is_at groups group (λ of. is_operated of (l ∷ r ∷ []) prop) ≡ true
      two-way well l r is_l is_r = ap₂ (λ l r. is_at groups group (λ of. is_operated of (l ∷ r ∷ []) prop)) is_l is_r ∙ op-way well (left ∷ right ∷ []) two

      two-cut : pieces p ≡ cut_step groups (Plan-F.Op group prop (pieces left ∷ pieces right ∷ []))
      two-cut = op-cut ∙ ap (λ some. cut_step groups (Plan-F.Op group prop (map pieces some))) two

      two-nodes : node_count p ≡ suc (node_count left + (node_count right + 0))
      two-nodes =
          let first = sum-cons (node_count left) (node_count right ∷ []) in
          let second = sum-cons (node_count right) [] in
          op-nodes ∙ ap (λ some. suc (sum (map node_count some))) two ∙ (omega (arith, first, second))

      two-well : (shape p).fault ≡ None → ((shape left).fault ≡ None) × ((shape right).fault ≡ None)
      two-well well = two-none (shape left) (shape right) (subst (λ some. fault_after 0 (map shape some) ≡ None) two (op-parts well).0)

      pub left-called : (shape p).fault ≡ None → (before : ℕ) → before + node_count p < 2 ^ 32 → IsCalled groups p left before
      left-called well before room =
          let count = two-nodes in
          record { less = omega (arith, count); well = (two-well well).0; room = omega (arith, count, room) }

      pub right-called : (shape p).fault ≡ None → (before now : List Step) → length before + node_count p < 2 ^ 32 → now ≡ before ++ ((pieces left).fragment (length before)).steps → IsCalled groups p right (length now)
      right-called well before now room at =
          let few = few-steps groups left (length before) in
          let all : length now ≡ length before + length ((pieces left).fragment (length before)).steps = ap length at ∙ length-append before ((pieces left).fragment (length before)).steps in
          let count = two-nodes in
          record { less = omega (arith, count); well = (two-well well).1; room = omega (arith, few, all, count, room) }

      module _ (before middle now : List Step) (first : middle ≡ before ++ ((pieces left).fragment (length before)).steps) where
        count-middle : length middle ≡ length before + length ((pieces left).fragment (length before)).steps
        count-middle = ap length first ∙ length-append before ((pieces left).fragment (length before)).steps

        pub two-steps : now ≡ middle ++ ((pieces right).fragment (length middle)).steps → now ≡ before ++ ((pieces p).fragment (length before)).steps
        two-steps second =
            let steps = ((pieces left).fragment (length before)).steps in
            let n = length before + length steps in
            let more = ((pieces right).fragment n).steps in
            second
            ∙ ap₂ (λ some n. some ++ ((pieces right).fragment n).steps) first count-middle
            ∙ append_assoc before steps more
            ∙ ap (λ some. before ++ (steps ++ some)) (sym (append-nil more))
            ∙ sym (ap (λ (c : Cutting). before ++ (c.fragment (length before)).steps) two-cut)

        pub two-tree : (l r : Branch) → l.made ≡ (pieces left).made → r.made ≡ (pieces right).made → l.tree ≡ ((pieces left).fragment (length before)).tree → r.tree ≡ ((pieces right).fragment (length middle)).tree
            → tree_of (expr_over groups group (l.made ∷ r.made ∷ [])) (l.tree ∷ r.tree ∷ []) ≡ ((pieces p).fragment (length before)).tree
        two-tree l r is_l is_r at_l at_r =
            ap₂ (λ a b. tree_of (expr_over groups group (a ∷ b ∷ [])) (l.tree ∷ r.tree ∷ [])) is_l is_r
            ∙ ap₂ (λ t u. tree_of (expr_over groups group ((pieces left).made ∷ (pieces right).made ∷ [])) (t ∷ u ∷ [])) at_l (at_r ∙ ap (λ n. ((pieces right).fragment n).tree) count-middle)
            ∙ sym (ap (λ (c : Cutting). (c.fragment (length before)).tree) two-cut)

  -- ---- moves

  module _ (mv : Move) (child : Plan) (is : p ≡ plan.Moved mv child) (passed : Plan) (same : passed ≡ child) where
    moved-cut : pieces p ≡ cut_step groups (Plan-F.Moved mv (pieces passed))
    moved-cut = ap pieces is ∙ fold-moved (cut_step groups) mv child ∙ ap (λ q. cut_step groups (Plan-F.Moved mv (pieces q))) (sym same)

    moved-nodes : node_count p ≡ suc (node_count passed)
    moved-nodes = ap node_count is ∙ fold-moved count_step mv child ∙ ap (λ q. suc (node_count q)) (sym same)

    pub moved-called : (shape p).fault ≡ None → (before : ℕ) → before + node_count p < 2 ^ 32 → IsCalled groups p passed before
    moved-called well before room =
        let all = moved-nodes in
        let known = fault-none (shape child ∷ []) (is_at groups (shape child).made.group (λ of. is_moved of mv (shape child).made.prop))
        (sym (ap (λ (s : Shape). s.fault) (ap shape is ∙ fold-moved (shape_step groups no_costs) mv child)) ∙ well) in
        record {
          less = omega (arith, all);
          well = ap (λ q. (shape q).fault) same ∙ one-none (shape child) known.0;
          room = omega (arith, all, room);
        }

    pub moved-group : (shape p).fault ≡ None → (made : Made) → made ≡ (pieces passed).made → is_at groups made.group (λ of. true) ≡ true
    moved-group well made is_made =
        let way = (fault-none (shape child ∷ []) (is_at groups (shape child).made.group (λ of. is_moved of mv (shape child).made.prop))
        (sym (ap (λ (s : Shape). s.fault) (ap shape is ∙ fold-moved (shape_step groups no_costs) mv child)) ∙ well)).1 in
        let found = at-some groups (shape child).made.group (λ of. is_moved of mv (shape child).made.prop) way in
        ap (λ (m : Made). is_at groups m.group (λ of. true)) (is_made ∙ cut-made groups no_costs passed ∙ ap (λ q. (shape q).made) same)
        ∙ ap (λ some. is_at_some some (λ of. true)) found.there

    module _ (before now : List Step) (at : now ≡ before ++ ((pieces passed).fragment (length before)).steps) where
      count-now : length now ≡ length before + length ((pieces passed).fragment (length before)).steps
      count-now = ap length at ∙ length-append before ((pieces passed).fragment (length before)).steps

      pub moved-room : length before + node_count p < 2 ^ 32 → suc (length now) < 2 ^ 32
      moved-room room =
          let few = few-steps groups passed (length before) in
          let all = count-now in
          let count = moved-nodes in
          omega (arith, few, all, count, room)

      pub moved-steps : (below : Branch) → below.made ≡ (pieces passed).made → below.tree ≡ ((pieces passed).fragment (length before)).tree → (after : List Step)
          → after ≡ now ++ step_of groups below.made mv below.tree (suc (length now)) ∷ [] → after ≡ before ++ ((pieces p).fragment (length before)).steps
      moved-steps below made t after is_after =
          let f = (pieces passed).fragment (length before) in
          is_after
          ∙ ap₂ (λ some n. some ++ step_of groups below.made mv below.tree (suc n) ∷ []) at count-now
          ∙ ap₂ (λ m t. (before ++ f.steps) ++ step_of groups m mv t (next_temp (length before) f.steps) ∷ []) made t
          ∙ append_assoc before f.steps (step_of groups (pieces passed).made mv f.tree (next_temp (length before) f.steps) ∷ [])
          ∙ sym (ap (λ (c : Cutting). before ++ (c.fragment (length before)).steps) moved-cut)

      pub moved-tree : tree.Temp (suc (length now)) ≡ ((pieces p).fragment (length before)).tree
      moved-tree = ap (λ n. tree.Temp (suc n)) count-now ∙ sym (ap (λ (c : Cutting). (c.fragment (length before)).tree) moved-cut)

  -- ---- free changes

  module _ (to : Prop) (child : Plan) (is : p ≡ plan.Free to child) (passed : Plan) (same : passed ≡ child) where
    free-nodes : node_count p ≡ suc (node_count passed)
    free-nodes = ap node_count is ∙ fold-free count_step to child ∙ ap (λ q. suc (node_count q)) (sym same)

    pub free-called : (shape p).fault ≡ None → (before : ℕ) → before + node_count p < 2 ^ 32 → IsCalled groups p passed before
    free-called well before room =
        let all = free-nodes in
        let known = fault-none (shape child ∷ []) (is_at groups (shape child).made.group (λ of. is_freed of (shape child).made.prop to))
        (sym (ap (λ (s : Shape). s.fault) (ap shape is ∙ fold-free (shape_step groups no_costs) to child)) ∙ well) in
        record {
          less = omega (arith, all);
          well = ap (λ q. (shape q).fault) same ∙ one-none (shape child) known.0;
          room = omega (arith, all, room);
        }
