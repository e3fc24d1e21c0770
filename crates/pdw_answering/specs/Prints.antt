-- What EXPLAIN JSON answers: the plan file of a plan for the query that no other undercuts, with bounds that show it.
use Rattle.std.specs.Prelude.{◌≡◌, ℕ, List, Option}
use Rattle.serde_json.specs.Written.{compact_text}
use Rattle.pdw_algebra.specs.declared.tree.Tree.{Tree}
use Rattle.pdw_answering.specs.Basis.{Basis, Reckoned, costs_on, memo_on}
use Rattle.pdw_enum.specs.Least.{IsLeastPlan, IsShort}
use Rattle.pdw_planjson.specs.Written.{file_data}
use Rattle.pdw_planjson.specs.declared.file.PlanFile.{PlanFile}
use Rattle.pdw_planner.specs.PlanFor.{IsForQuery}
use Rattle.pdw_ways.specs.Bounds.{cost_of_plan}
use Rattle.pdw_ways.specs.declared.plan.Plan.{Plan}

module _ (basis : Basis) (tree : Tree) where
  -- a plan and its bounds with what the plan costs
  abbrev pub file_on : Reckoned basis tree → Plan → List (List (Option ℕ)) → PlanFile
  file_on reckoned plan lists =
      record { plan = plan; bounds = record { lists = lists }; cost = cost_of_plan (memo_on basis tree).groups (costs_on basis tree reckoned) plan }

  -- the bytes are the compact text of the file of this plan, which no other plan for the query of the tree undercuts and which has
  -- short runs of moves and few nodes, and of the least costs of all groups and properties
  pub record PrintsBy (plan : Plan) (bytes : List ℕ) : Type 0 where
    pub reckoned : Reckoned basis tree
    pub query : IsForQuery (memo_on basis tree) plan
    pub lists : List (List (Option ℕ))
    pub least : IsLeastPlan (memo_on basis tree).groups (costs_on basis tree reckoned) plan lists
    pub short : IsShort plan
    pub text : bytes ≡ compact_text (file_data (file_on reckoned plan lists))
