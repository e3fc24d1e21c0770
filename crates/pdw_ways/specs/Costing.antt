-- What the moves of groups cost, by the flow of each group.
use Rattle.std.specs.Prelude.{◌≡◌, ◌≤◌, ◌^◌, ◌<◌, ℕ, List, Option, Some, None}
use Rattle.std.specs.List.{slice_get}
use Rattle.pdw_move.specs.Cost.{cost_of_move}
use Rattle.pdw_move.specs.declared.cost.Constants.{Constants}
use Rattle.pdw_groups.specs.declared.key.GroupId.{GroupId}
use Rattle.pdw_move.specs.declared.cost.Flow.{Flow}
use Rattle.pdw_move.specs.declared.kinds.Move.{Move}
use Rattle.pdw_ways.specs.Ways.{Costs}

-- the flow of a group; nothing flows where there is none
abbrev pub flow_or_none : Option Flow → Flow
flow_or_none None = record { rows = 0; width = 0 }
flow_or_none (Some flow) = flow

-- what a move of one group's rows costs among n compute nodes, by the group's flow
abbrev pub adds_by : ℕ → Constants → Flow → Move → ℕ
adds_by n constants flow move = cost_of_move n constants move flow

-- what a move costs among n compute nodes
abbrev pub costs_by : ℕ → Constants → List Flow → Costs
costs_by n constants flows group move = adds_by n constants (flow_or_none (slice_get flows group.0)) move

-- costs that are these at a group
abbrev pub AgreeAt : Costs → GroupId → (Move → ℕ) → Type 0
AgreeAt costs group adds = (move : Move) → costs group move ≡ adds move

-- flows are reckoned with at most 10^12 rows, of any width of 32 bits
abbrev pub AreReckoned : List Flow → Type 0
AreReckoned flows = (number : ℕ) (flow : Flow) → slice_get flows number ≡ Some flow → (flow.rows ≤ 1000000000000) × (flow.width < 2 ^ 32)

-- each move costs less than this
abbrev pub most_of_a_move : ℕ
most_of_a_move = 2 ^ 97
