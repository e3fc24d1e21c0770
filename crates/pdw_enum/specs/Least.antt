-- A least plan with its bounds: no plan for the query costs less, and for each group and property the bound is the least cost of
-- any plan.
use Rattle.std.specs.Prelude.{◌≡◌, ◌≤◌, ◌*◌, ◌^◌, ℕ, List, Option, Some}
use Rattle.std.specs.List.{AllByRecursion}
use Rattle.pdw_enum.specs.Root.{least_of_root, root_of}
use Rattle.pdw_groups.specs.declared.group.Group.{Group}
use Rattle.pdw_least.specs.Runs.{HasShortRuns, IsWithinFour, operators, runs_of}
use Rattle.pdw_plan.specs.Count.{node_count}
use Rattle.pdw_ways.specs.Bounds.{AreLeast, AreSmall, AreValid, HaveShape, NoneCheaper, bound_in, cost_of_plan}
use Rattle.pdw_ways.specs.Ways.{Costs}
use Rattle.pdw_ways.specs.declared.plan.Plan.{Plan}

pub record IsLeastPlan (groups : List Group) (costs : Costs) (plan : Plan) (lists : List (List (Option ℕ))) : Type 0 where
  -- there is one list for each group, and in it one bound for each of the group's properties
  pub shape : HaveShape groups lists
  -- each bound is at most what the bounds of a way's children and what the way adds come to
  pub valid : AreValid groups costs (bound_in groups lists)
  -- each bound is what some plan of its group and property costs, and no other costs less; it is unreachable exactly where there is none
  pub least : AreLeast groups costs (bound_in groups lists)
  -- the least bound of the root is what the plan costs
  pub tight : least_of_root groups lists ≡ Some (cost_of_plan groups costs plan)
  -- no plan for the root costs less, whatever its property
  pub none_cheaper : NoneCheaper groups costs (root_of groups) (cost_of_plan groups costs plan)
  -- each bound is a number below 2^126, or unreachable
  pub small : AreSmall (bound_in groups lists)

-- a plan with few moves and free changes
pub record IsShort (plan : Plan) : Type 0 where
  -- no property occurs twice in a run of moves and free changes at one group
  pub runs : HasShortRuns plan
  -- so there are at most four of them in a run
  pub steps : AllByRecursion IsWithinFour (runs_of plan)
  -- and the plan has at most five nodes for each of its scans and operators
  pub few : node_count plan ≤ 5 * operators plan
  -- of which there are at most as many as the root weighs
  pub some : operators plan ≤ 2 ^ 20
