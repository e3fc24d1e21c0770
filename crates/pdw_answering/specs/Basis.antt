-- What queries are planned over, and what a plan for a query that no other undercuts is there.
use Rattle.std.specs.Prelude.{◌≡◌, ℕ, List, Option}
use Rattle.pdw_algebra.specs.declared.tree.Tree.{Tree}
use Rattle.pdw_catalog.specs.Catalog.{Tables}
use Rattle.pdw_enum.specs.Root.{root_of}
use Rattle.pdw_groups.specs.Memo.{Contents}
use Rattle.pdw_memo.specs.Memo.{IsMemo}
use Rattle.pdw_move.specs.declared.cost.Constants.{Constants}
use Rattle.pdw_plan.specs.Cost.{costs_in}
use Rattle.pdw_planner.specs.PlanFor.{IsForQuery}
use Rattle.pdw_planner.specs.Planned.{memo_within}
use Rattle.pdw_stats.specs.Book.{Book, stats_of}
use Rattle.pdw_stats.specs.declared.stats.Stats.{Stats}
use Rattle.pdw_ways.specs.Bounds.{NoneCheaper, cost_of_plan}
use Rattle.pdw_ways.specs.Ways.{Costs}
use Rattle.pdw_ways.specs.declared.plan.Plan.{Plan}

-- the tables, the statistics of each name, the number of compute nodes, the budget of exploration, and what moving a byte costs
pub record Basis : Type 0 where
  pub tables : Tables
  pub stats : List ℕ → Option Stats
  pub nodes : ℕ
  pub budget : ℕ
  pub constants : Constants

-- the statistics are those of a book
abbrev pub basis_in : Tables → Book → ℕ → ℕ → Constants → Basis
basis_in tables book nodes budget constants =
    record { tables = tables; stats = λ name. stats_of name book; nodes = nodes; budget = budget; constants = constants }

module _ (basis : Basis) (tree : Tree) where
  -- the explored memo: that of the tree, with the levels that the budget allows
  abbrev pub memo_on : Contents
  memo_on = memo_within basis.budget basis.tables tree

  -- how the groups of the memo are reckoned: it is the memo of this tree over these tables, and a book tells these statistics
  pub record Reckoned : Type 0 where
    pub book : Book
    pub told : (name : List ℕ) → stats_of name book ≡ basis.stats name
    pub is : IsMemo memo_on
    pub over : is.tables ≡ basis.tables
    pub means : is.tree ≡ tree

  -- what the moves of each group cost
  abbrev pub costs_on : Reckoned → Costs
  costs_on reckoned = costs_in memo_on reckoned.is reckoned.book basis.nodes basis.constants

  -- a plan for the query: each of its nodes is a way to make the rows of its group, and the last makes those of the root; and no plan
  -- over the memo and the moves that makes the rows of the root costs less
  pub record IsLeastOn (reckoned : Reckoned) (plan : Plan) : Type 0 where
    pub query : IsForQuery memo_on plan
    pub least : NoneCheaper memo_on.groups (costs_on reckoned) (root_of memo_on.groups) (cost_of_plan memo_on.groups (costs_on reckoned) plan)
