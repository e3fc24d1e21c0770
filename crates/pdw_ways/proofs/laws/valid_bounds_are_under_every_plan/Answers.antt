use Rattle.pdw_ways.proofs.Under.{under-plans}
use Rattle.pdw_ways.proofs.laws.valid_bounds_are_under_every_plan.Goals as goal

pub returns : goal.returns
returns c = under-plans
