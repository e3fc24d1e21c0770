use Rattle.pdw_plan_exists.proofs.LeastPlan.{tree-least}
use Rattle.pdw_plan_exists.proofs.laws.each_query_has_a_least_plan.Goals as goal

pub returns : goal.returns
returns c = tree-least c.there_is_a_least_table.ensures
