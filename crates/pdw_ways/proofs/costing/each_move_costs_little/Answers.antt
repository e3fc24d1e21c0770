use Rattle.pdw_ways.proofs.CostLemmas.{move_small}
use Rattle.pdw_ways.proofs.costing.each_move_costs_little.Goals as goal

pub returns : goal.returns
returns c = move_small
