use Rattle.pdw_plan.specs.Walk.{no_costs}
use Rattle.pdw_select.proofs.select.profile_planned.Goals as goal

pub cost_of-cost-requires-clause-well_formed : goal.cost_of-cost-requires-clause-well_formed
cost_of-cost-requires-clause-well_formed g c = c.requires.planned.query no_costs
