-- What executing a plan for the query over a memo gives.
use Rattle.std.specs.Prelude.{◌≡◌, List, map}
use Rattle.pdw_base.specs.SameBag.{SameBag}
use Rattle.pdw_base.specs.Schema.{cell}
use Rattle.pdw_base.specs.declared.value.Value.{Value}
use Rattle.pdw_catalog.specs.Appliance.{Contents as Appliance}
use Rattle.pdw_catalog.specs.Catalog.{Tables}
use Rattle.pdw_dsql.specs.Follows.{Taken, taken_of}
use Rattle.pdw_dsql.specs.Steps.{root_schema}
use Rattle.pdw_groups.specs.Memo.{Contents}
use Rattle.pdw_groups.specs.declared.group.Group.{Group}
use Rattle.pdw_memo.specs.Memo.{IsMemo}
use Rattle.pdw_plan.specs.Given.{given_by, returned_by}
use Rattle.pdw_ways.specs.declared.plan.Plan.{Plan}

-- a memo of a tree over these tables
abbrev pub IsMemoOver : Tables → Contents → Type 0
IsMemoOver tables memo = (is : IsMemo memo) × (is.tables ≡ tables)

module _ (groups : List Group) (appliance : Appliance) (plan : Plan) where
  -- the rows, read by the columns of the root group, are what the plan returns over the appliance, in any order
  abbrev pub IsExecuted : List (List Value) → Type 0
  IsExecuted rows = SameBag (map (cell (root_schema groups)) rows) (returned_by groups appliance plan)

  -- what the moves of the plan take over the appliance, children first
  abbrev pub takes_of : List Taken
  takes_of = map (taken_of groups) (given_by groups appliance plan).crossings
