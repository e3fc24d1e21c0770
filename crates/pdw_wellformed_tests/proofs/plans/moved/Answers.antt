use Rattle.pdw_wellformed_tests.proofs.Counts.{moved-count}
use Rattle.pdw_wellformed_tests.proofs.plans.moved.Goals as goal

pub returns : goal.returns
returns c = moved-count c.args.mv c.in_ok-child.child c.args.child c.in_ok-child.ensures
