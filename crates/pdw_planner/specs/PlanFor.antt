-- Plans for the query of a tree that no other such plan undercuts, over the memo of the tree at the levels of a budget.
use Rattle.std.specs.Prelude.{◌≡◌, ℕ, None}
use Rattle.pdw_algebra.specs.declared.tree.Tree.{Tree}
use Rattle.pdw_catalog.specs.Catalog.{Tables}
use Rattle.pdw_enum.specs.Root.{root_of}
use Rattle.pdw_groups.specs.Memo.{Contents}
use Rattle.pdw_memo.specs.Memo.{IsMemo}
use Rattle.pdw_move.specs.declared.cost.Constants.{Constants}
use Rattle.pdw_plan.specs.Cost.{costs_in}
use Rattle.pdw_planner.specs.Planned.{memo_within}
use Rattle.pdw_stats.specs.Book.{Book}
use Rattle.pdw_ways.specs.Bounds.{NoneCheaper, cost_of_plan}
use Rattle.pdw_ways.specs.Shape.{query_fault, shape_of}
use Rattle.pdw_ways.specs.Ways.{Costs}
use Rattle.pdw_ways.specs.declared.plan.Plan.{Plan}

-- each node of the plan is a way to make the rows of its group, and the last makes those of the root
abbrev pub IsForQuery : Contents → Plan → Type 0
IsForQuery memo plan = (costs : Costs) → query_fault memo.groups (shape_of memo.groups costs plan) ≡ None

-- no plan for the root costs less, by the statistics, at n compute nodes and by these constants
abbrev pub IsUndercutByNone : Book → ℕ → Constants → Contents → Plan → Type 0
IsUndercutByNone book n constants memo plan =
    (is : IsMemo memo) → NoneCheaper memo.groups (costs_in memo is book n constants) (root_of memo.groups) (cost_of_plan memo.groups (costs_in memo is book n constants) plan)

pub record IsPlanFor (tables : Tables) (book : Book) (n budget : ℕ) (constants : Constants) (tree : Tree) (plan : Plan) : Type 0 where
  pub query : IsForQuery (memo_within budget tables tree) plan
  pub least : IsUndercutByNone book n constants (memo_within budget tables tree) plan
