-- Of two plans for a query none of which the other undercuts each costs what the other does.
use Rattle.std.proofs.Common.{◌≡◌, ◌≤◌, ◌-◌, ℕ, suc, true, List, length, None, refl, ap, subst, ◌∙◌, arith, eqb-true}
use Rattle.pdw_algebra.specs.declared.tree.Tree.{Tree}
use Rattle.pdw_catalog.specs.Catalog.{Tables}
use Rattle.pdw_enum.specs.Root.{root_of}
use Rattle.pdw_groups.specs.declared.group.Group.{Group}
use Rattle.pdw_groups.specs.declared.key.GroupId.{GroupId}
use Rattle.pdw_memo.specs.Memo.{IsMemo}
use Rattle.pdw_move.specs.declared.cost.Constants.{Constants}
use Rattle.pdw_plan.proofs.PlanLaw.{query-none}
use Rattle.pdw_plan.specs.Cost.{costs_in}
use Rattle.pdw_planner.specs.PlanFor.{IsPlanFor}
use Rattle.pdw_planner.specs.Planned.{memo_within}
use Rattle.pdw_stats.specs.Book.{Book}
use Rattle.pdw_ways.specs.Bounds.{NoneCheaper, cost_of_plan}
use Rattle.pdw_ways.specs.Shape.{IsPlan, Shape, is_root, query_fault, shape_of}
use Rattle.pdw_ways.specs.Ways.{Costs}
use Rattle.pdw_ways.specs.declared.made.Made.{Made}
use Rattle.pdw_ways.specs.declared.plan.Plan.{Plan}

both-ways : (a b : ℕ) → a ≤ b → b ≤ a → a ≡ b
both-ways a b under over = omega arith

module _ (groups : List Group) (costs : Costs) where
  root-same : (number : GroupId) → is_root groups number ≡ true → number ≡ root_of groups
  root-same number is =
      let same : suc number.0 ≡ length groups = eqb-true (suc number.0) (length groups) is in
      let place : number.0 ≡ length groups - 1 = omega (arith, same) in
      λ k. record { 0 = place k }

  -- a plan for the query is one for the root
  query-root : (plan : Plan) → query_fault groups (shape_of groups costs plan) ≡ None → IsPlan groups costs plan (record { group = root_of groups; prop = (shape_of groups costs plan).made.prop })
  query-root plan none =
      let s : Shape = shape_of groups costs plan in
      let both = query-none s.fault (is_root groups s.made.group) (s.nodes - 1) none in
      let root : s.made.group ≡ root_of groups = root-same s.made.group both.1 in
      record { allowed = both.0; makes = λ k. record { group = root k; prop = s.made.prop } }

  pub over : (plan other : Plan) → NoneCheaper groups costs (root_of groups) (cost_of_plan groups costs plan) → query_fault groups (shape_of groups costs other) ≡ None → cost_of_plan groups costs plan ≤ cost_of_plan groups costs other
  over plan other least none = least other (shape_of groups costs other).made.prop (query-root other none)

pub one-cost : (tables : Tables) (book : Book) (n budget : ℕ) (constants : Constants) (tree : Tree) (first second : Plan) → IsPlanFor tables book n budget constants tree first → IsPlanFor tables book n budget constants tree second
    → (is : IsMemo (memo_within budget tables tree))
    → cost_of_plan (memo_within budget tables tree).groups (costs_in (memo_within budget tables tree) is book n constants) first ≡ cost_of_plan (memo_within budget tables tree).groups (costs_in (memo_within budget tables tree) is book n constants) second
one-cost tables book n budget constants tree first second one other is =
    let groups : List Group = (memo_within budget tables tree).groups in
    let costs : Costs = costs_in (memo_within budget tables tree) is book n constants in
    let under = over groups costs first second (one.least is) (other.query costs) in
    let also = over groups costs second first (other.least is) (one.query costs) in
    both-ways (cost_of_plan groups costs first) (cost_of_plan groups costs second) under also
