-- What a query is planned to.
use Rattle.std.specs.Prelude.{◌≡◌, ℕ, None}
use Rattle.pdw_algebra.specs.declared.tree.Tree.{Tree}
use Rattle.pdw_catalog.specs.Catalog.{Tables}
use Rattle.pdw_enum.specs.Least.{IsLeastPlan, IsShort}
use Rattle.pdw_explore.specs.Explored.{explored_memo}
use Rattle.pdw_groups.specs.Memo.{Contents, all_written, memo_of}
use Rattle.pdw_memo.specs.Memo.{IsMemo}
use Rattle.pdw_move.specs.declared.cost.Constants.{Constants}
use Rattle.pdw_plan.specs.Cost.{costs_in}
use Rattle.pdw_planner.specs.declared.planned.Planned.{Planned}
use Rattle.pdw_stats.specs.Book.{Book}
use Rattle.pdw_ways.specs.Bounds.{cost_of_plan}
use Rattle.pdw_ways.specs.Shape.{query_fault, shape_of}
use Rattle.pdw_ways.specs.Ways.{Costs}

-- the memo of a tree, whose blocks are explored as far as the budget allows
abbrev pub memo_within : ℕ → Tables → Tree → Contents
memo_within budget tables tree = explored_memo budget (memo_of tables all_written tree) tables tree

-- a plan that no other plan over the memo of a tree undercuts, with the least costs of all groups and properties, by the sizes that
-- the statistics give the groups, at n compute nodes
pub record IsPlanned (tables : Tables) (book : Book) (n budget : ℕ) (constants : Constants) (tree : Tree) (planned : Planned) : Type 0 where
  -- its memo is that of the tree
  pub memo : planned.memo ≡ memo_within budget tables tree
  -- its plan is one for the query
  pub query : (costs : Costs) → query_fault planned.memo.groups (shape_of planned.memo.groups costs planned.plan) ≡ None
  -- which costs least, and its bounds are the least costs
  pub least : (is : IsMemo planned.memo) → IsLeastPlan planned.memo.groups (costs_in planned.memo is book n constants) planned.plan planned.bounds.lists
  -- the plan has short runs of moves and few nodes
  pub short : IsShort planned.plan

-- what its plan costs
abbrev pub cost_in : (planned : Planned) → IsMemo planned.memo → Book → ℕ → Constants → ℕ
cost_in planned is book n constants = cost_of_plan planned.memo.groups (costs_in planned.memo is book n constants) planned.plan
