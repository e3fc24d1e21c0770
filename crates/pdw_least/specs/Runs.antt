-- Runs: moves and free changes that follow one another at a group, with the scan or operator at which they start.
use Rattle.std.specs.Prelude.{◌≤◌, ◌*◌, ℕ, suc, sum, List, [], ◌∷◌, length, flat_map}
use Rattle.std.specs.List.{AllByRecursion, IsDistinct}
use Rattle.pdw_groups.specs.declared.group.Group.{Group}
use Rattle.pdw_move.specs.Move.{property_after}
use Rattle.pdw_move.specs.declared.kinds.Prop.{Prop}
use Rattle.pdw_rules.specs.Rules.{is_same}
use Rattle.pdw_ways.specs.Shape.{shape_of}
use Rattle.pdw_ways.specs.Ways.{Costs}
use Rattle.pdw_ways.specs.declared.plan.Plan.{Plan}
use Rattle.pdw_ways.specs.declared.plan.Plan.TheFolds.{fold-Plan}
use Rattle.pdw_ways.specs.declared.plan.Plan.TheOpen.{Plan-F}

-- of a plan: under which properties the rows stand in the run at its top, from the last node down to the scan or operator at
-- which it starts, and so for each run below that
pub record Runs : Type 0 where
  pub top : List Prop
  pub below : List (List Prop)

abbrev pub each_run : Runs → List (List Prop)
each_run runs = runs.top ∷ runs.below

abbrev pub runs_step : Plan-F Runs → Runs
runs_step (Plan-F.Scan group prop) = record { top = prop ∷ []; below = [] }
runs_step (Plan-F.Op group prop children) = record { top = prop ∷ []; below = flat_map each_run children }
runs_step (Plan-F.Moved mv child) = record { top = property_after mv ∷ child.top; below = child.below }
runs_step (Plan-F.Free to child) = record { top = to ∷ child.top; below = child.below }

abbrev pub runs_in : Plan → Runs
runs_in = fold-Plan Runs runs_step

abbrev pub runs_of : Plan → List (List Prop)
runs_of plan = each_run (runs_in plan)

-- no property occurs twice in a run
abbrev pub HasShortRuns : Plan → Type 0
HasShortRuns plan = AllByRecursion (IsDistinct is_same) (runs_of plan)

-- a run is a scan or an operator, and at most four moves and free changes
abbrev pub IsWithinFour : List Prop → Type 0
IsWithinFour run = length run ≤ 5

-- ---- how many scans and operators a plan has

abbrev pub operators_step : Plan-F ℕ → ℕ
operators_step (Plan-F.Scan group prop) = 1
operators_step (Plan-F.Op group prop children) = suc (sum children)
operators_step (Plan-F.Moved mv child) = child
operators_step (Plan-F.Free to child) = child

abbrev pub operators : Plan → ℕ
operators = fold-Plan ℕ operators_step

-- a plan has at most five nodes for each of them
abbrev pub HasFewNodes : List Group → Costs → Plan → Type 0
HasFewNodes groups costs plan = (shape_of groups costs plan).nodes ≤ 5 * operators plan
