use Rattle.pdw_plan_exists.proofs.OneCost.{one-cost}
use Rattle.pdw_plan_exists.proofs.laws.least_plans_cost_the_same.Goals as goal

pub returns : goal.returns
returns c = one-cost
