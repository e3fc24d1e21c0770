use Rattle.pdw_ways.proofs.LeastCosts.{least-costs}
use Rattle.pdw_ways.proofs.laws.valid_costs_are_least.Goals as goal

pub returns : goal.returns
returns c = least-costs
