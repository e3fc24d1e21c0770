use Rattle.pdw_plan.proofs.PlanLaw.{plan-gives}
use Rattle.pdw_plan.proofs.laws.plans_give_rows_of_their_group.Goals as goal

pub returns : goal.returns
returns c = plan-gives
