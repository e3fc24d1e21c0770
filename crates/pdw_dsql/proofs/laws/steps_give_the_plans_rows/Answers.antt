use Rattle.pdw_dsql.proofs.PlanSteps.{steps-follow}
use Rattle.pdw_dsql.proofs.laws.steps_give_the_plans_rows.Goals as goal

pub returns : goal.returns
returns c = steps-follow
