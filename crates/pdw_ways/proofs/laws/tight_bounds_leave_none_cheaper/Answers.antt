use Rattle.pdw_ways.proofs.LeastCosts.{none-cheaper}
use Rattle.pdw_ways.proofs.laws.tight_bounds_leave_none_cheaper.Goals as goal

pub returns : goal.returns
returns c = none-cheaper
