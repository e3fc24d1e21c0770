-- What plans cost: what each of their moves costs, by the size of the group whose rows it moves.
use Rattle.std.specs.Prelude.{ℕ, Option, Some, None}
use Rattle.std.specs.List.{slice_get}
use Rattle.pdw_groups.specs.Memo.{Contents}
use Rattle.pdw_memo.specs.Memo.{IsMemo}
use Rattle.pdw_move.specs.Cost.{cost_of_move}
use Rattle.pdw_move.specs.declared.cost.Constants.{Constants}
use Rattle.pdw_move.specs.declared.cost.Flow.{Flow}
use Rattle.pdw_sizes.specs.Sizes.{sizes_in}
use Rattle.pdw_sizes.specs.declared.size.Size.{Size}
use Rattle.pdw_stats.specs.Book.{Book}
use Rattle.pdw_ways.specs.Ways.{Costs}

-- how much a move of a group moves
abbrev pub flow_of : Option Size → Flow
flow_of None = record { rows = 0; width = 0 }
flow_of (Some size) = record { rows = size.rows; width = size.width }

-- what the moves of a memo's groups cost at n compute nodes
abbrev pub costs_in : (memo : Contents) → IsMemo memo → Book → ℕ → Constants → Costs
costs_in memo is book n constants group move = cost_of_move n constants move (flow_of (slice_get (sizes_in memo is book n) group.0))
