-- That the query of a tree has a least plan, over the memo of the tree at the levels within a budget.
use Rattle.std.specs.Prelude.{◌≡◌, ℕ, List, Option}
use Rattle.pdw_algebra.specs.declared.tree.Tree.{Tree}
use Rattle.pdw_catalog.specs.Catalog.{Tables}
use Rattle.pdw_enum.specs.Least.{IsLeastPlan, IsShort}
use Rattle.pdw_memo.specs.Memo.{IsMemo}
use Rattle.pdw_move.specs.declared.cost.Constants.{Constants}
use Rattle.pdw_plan.specs.Cost.{costs_in}
use Rattle.pdw_planner.specs.PlanFor.{IsForQuery}
use Rattle.pdw_planner.specs.Planned.{memo_within}
use Rattle.pdw_planner.specs.declared.planned.Planned.{Planned}
use Rattle.pdw_stats.specs.Book.{Book}
use Rattle.pdw_ways.specs.declared.plan.Plan.{Plan}

-- there is a plan for the query that costs least, by the sizes that the statistics give the groups, at n compute nodes
pub record HasLeastPlan (tables : Tables) (book : Book) (n budget : ℕ) (constants : Constants) (tree : Tree) : Type 0 where
  -- what it is planned over is a memo of this tree and these tables
  pub is : IsMemo (memo_within budget tables tree)
  pub of_tables : is.tables ≡ tables
  pub of_tree : is.tree ≡ tree
  -- the plan, and for each group the bounds of its properties
  pub plan : Plan
  pub lists : List (List (Option ℕ))
  -- the plan is one for the query
  pub query : IsForQuery (memo_within budget tables tree) plan
  -- no other costs less, and the bounds are the least costs
  pub least : IsLeastPlan (memo_within budget tables tree).groups (costs_in (memo_within budget tables tree) is book n constants) plan lists
  -- the plan has short runs of moves and few nodes
  pub short : IsShort plan

-- the plan and the bounds with the memo that they are of
abbrev pub planned_by : (tables : Tables) (book : Book) (n budget : ℕ) (constants : Constants) (tree : Tree) → HasLeastPlan tables book n budget constants tree → Planned
planned_by tables book n budget constants tree least = record {
  memo = memo_within budget tables tree;
  plan = least.plan;
  bounds = record { lists = least.lists };
}
