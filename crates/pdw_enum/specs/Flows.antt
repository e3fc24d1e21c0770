-- How much a move of each group of a memo moves, by the group's size.
use Rattle.std.specs.Prelude.{ℕ, List, Some, map}
use Rattle.pdw_groups.specs.Memo.{Contents}
use Rattle.pdw_memo.specs.Memo.{IsMemo}
use Rattle.pdw_move.specs.declared.cost.Flow.{Flow}
use Rattle.pdw_plan.specs.Cost.{flow_of}
use Rattle.pdw_sizes.specs.Sizes.{sizes_in}
use Rattle.pdw_sizes.specs.declared.size.Size.{Size}
use Rattle.pdw_stats.specs.Book.{Book}

-- all its rows
abbrev pub flow_by : Size → Flow
flow_by size = flow_of (Some size)

-- by the numbers of the groups, at n compute nodes
abbrev pub flows_in : (memo : Contents) → IsMemo memo → Book → ℕ → List Flow
flows_in memo is book n = map flow_by (sizes_in memo is book n)
