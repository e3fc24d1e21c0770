use Rattle.pdw_planner.proofs.Accepted.{planned-accepted}
use Rattle.pdw_planner.proofs.laws.what_is_planned_is_accepted.Goals as goal

pub returns : goal.returns
returns c = planned-accepted
