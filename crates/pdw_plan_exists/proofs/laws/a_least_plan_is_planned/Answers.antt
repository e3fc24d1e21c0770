use Rattle.pdw_plan_exists.proofs.LeastPlan.{least-planned}
use Rattle.pdw_plan_exists.proofs.laws.a_least_plan_is_planned.Goals as goal

pub returns : goal.returns
returns c = least-planned
