use Rattle.pdw_plan.proofs.PlanLaw.{query-gives}
use Rattle.pdw_plan.proofs.laws.plans_for_the_query_return_its_rows.Goals as goal

pub returns : goal.returns
returns c = query-gives
