use Rattle.pdw_wellformed_tests.proofs.Counts.{free-count}
use Rattle.pdw_wellformed_tests.proofs.plans.free.Goals as goal

pub returns : goal.returns
returns c = free-count c.args.to c.in_ok-child.child c.args.child c.in_ok-child.ensures
