use Rattle.pdw_move.proofs.CostLemmas.{cost_of_move-lt}
use Rattle.pdw_move.proofs.cost.each_move_costs_less.Goals as goal

pub returns : goal.returns
returns c = cost_of_move-lt
