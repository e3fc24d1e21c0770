use Rattle.pdw_plan_exists.proofs.SameCosts.{costs-whatever}
use Rattle.pdw_plan_exists.proofs.laws.moves_cost_the_same_whatever_the_tree.Goals as goal

pub returns : goal.returns
returns c = costs-whatever
