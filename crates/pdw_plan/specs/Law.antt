-- The law of plans: the rows that a plan gives stand for a bag that its group admits.
use Rattle.std.specs.Prelude.{◌≡◌, List}
use Rattle.pdw_base.specs.SameBag.{SameBag}
use Rattle.pdw_base.specs.Schema.{Env}
use Rattle.pdw_catalog.specs.Appliance.{IsSound, Contents as Appliance}
use Rattle.pdw_catalog.specs.Database.{undivided}
use Rattle.pdw_groups.specs.Memo.{AdmitsAt, Contents}
use Rattle.pdw_memo.specs.Laws.{meanings_in}
use Rattle.pdw_memo.specs.Memo.{IsMemo}
use Rattle.pdw_plan.specs.Given.{given_by, returned_by}
use Rattle.pdw_rules.specs.Stands.{IsInside, StandsFor}
use Rattle.pdw_ways.specs.declared.made.Made.{Made}
use Rattle.pdw_ways.specs.declared.plan.Plan.{Plan}

-- over an appliance a plan gives rows that stand, under its property, for a bag that its group admits of the undivided
-- tables; outside the property's nodes there are none, and the bag is what is returned to the client
pub record GivesItsGroup (memo : Contents) (is : IsMemo memo) (appliance : Appliance) (plan : Plan) (of : Made) : Type 0 where
  pub made : (given_by memo.groups appliance plan).made ≡ of
  pub bag : List Env
  pub admitted : AdmitsAt (undivided appliance) (meanings_in memo is) of.group.0 bag
  pub stands : StandsFor appliance.nodes of.prop (given_by memo.groups appliance plan).rows bag
  pub inside : IsInside of.prop (given_by memo.groups appliance plan).rows
  pub returned : SameBag (returned_by memo.groups appliance plan) bag

-- over every sound appliance that has the tables of the memo
abbrev pub GivesRowsOfGroup : Contents → Plan → Made → Type 0
GivesRowsOfGroup memo plan made = (is : IsMemo memo) (appliance : Appliance) → IsSound appliance → is.tables ≡ appliance.tables → GivesItsGroup memo is appliance plan made
