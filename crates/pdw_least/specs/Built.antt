-- Plans that are read off a log.
use Rattle.std.specs.Prelude.{◌≡◌, ◌<◌, ℕ, List, length, take, Option, Some, None}
use Rattle.std.specs.List.{AllByRecursion, slice_get}
use Rattle.pdw_groups.specs.declared.group.Group.{Group}
use Rattle.pdw_move.specs.declared.kinds.Prop.{Prop}
use Rattle.pdw_ways.specs.Bounds.{AtMost, cost_of_plan}
use Rattle.pdw_ways.specs.Shape.{IsPlan}
use Rattle.pdw_ways.specs.Ways.{Costs}
use Rattle.pdw_ways.specs.declared.made.Made.{Made}
use Rattle.pdw_ways.specs.declared.plan.Plan.{Plan}
use Rattle.pdw_ways.specs.declared.way.Way.{Way}
use Rattle.pdw_least.specs.Log.{IsBelow, IsEntry, IsLog, bounds_after}
use Rattle.pdw_least.specs.Runs.{HasShortRuns, runs_in}
use Rattle.pdw_least.specs.declared.entry.Entry.{Entry}

-- a plan for these rows that costs exactly this
abbrev pub IsBuilt : List Group → Costs → Plan → Made → Option ℕ → Type 0
IsBuilt groups costs plan made None = ⊥
IsBuilt groups costs plan made (Some cost) = IsPlan groups costs plan made × (cost_of_plan groups costs plan ≡ cost)

-- the entry of this number is the last that makes these rows
pub record IsLastAt (log : List Entry) (made : Made) (number : ℕ) : Type 0 where
  pub entry : Entry
  pub there : slice_get log number ≡ Some entry
  pub makes : entry.made ≡ made
  pub found : bounds_after log made ≡ Some entry.cost

abbrev pub IsLastIn : List Entry → Made → Option ℕ → Type 0
IsLastIn log made None = bounds_after log made ≡ None
IsLastIn log made (Some number) = IsLastAt log made number

-- the last entry for these rows is this way, it costs less than was known before, and what is before it is a log, whose bounds
-- are no lower
pub record IsLast (groups : List Group) (costs : Costs) (log : List Entry) (made : Made) (number : ℕ) (way : Way) : Type 0 where
  pub within : number < length log
  pub front : IsLog groups costs (take number log)
  pub cost : ℕ
  pub found : bounds_after log made ≡ Some cost
  pub entry : IsEntry groups costs (bounds_after (take number log)) (record { made = made; way = way; cost = cost })
  pub below : IsBelow cost (bounds_after (take number log) made)
  pub falls : (other : Made) → AtMost (bounds_after log other) (bounds_after (take number log) other)

-- a plan that is read off a log: no run of it comes back to a property, since the log has for each property of the run at its
-- top a bound of at most what the plan costs
pub record IsReadOff (groups : List Group) (costs : Costs) (log : List Entry) (plan : Plan) (made : Made) : Type 0 where
  pub built : IsBuilt groups costs plan made (bounds_after log made)
  pub runs : HasShortRuns plan
  pub under : AllByRecursion (λ (p : Prop). AtMost (bounds_after log (record { group = made.group; prop = p })) (Some (cost_of_plan groups costs plan))) (runs_in plan).top
