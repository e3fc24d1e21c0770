use Rattle.pdw_planner.proofs.Undercut.{planned-least}
use Rattle.pdw_planner.proofs.laws.no_plan_undercuts_the_planned_one.Goals as goal

pub returns : goal.returns
returns c = planned-least
