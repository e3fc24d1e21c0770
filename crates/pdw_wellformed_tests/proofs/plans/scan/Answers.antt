use Rattle.pdw_wellformed_tests.proofs.Counts.{scan-count}
use Rattle.pdw_wellformed_tests.proofs.plans.scan.Goals as goal

pub returns : goal.returns
returns c = scan-count _ c.args.prop
