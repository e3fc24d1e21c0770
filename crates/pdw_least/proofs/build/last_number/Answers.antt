use Rattle.pdw_least.proofs.Builds.{last-step}
use Rattle.pdw_least.proofs.build.last_number.Goals as goal

pub loop-number-preserved : goal.loop-number-preserved
loop-number-preserved c = last-step c.args.log.now c.args.made c.loop-number.number _ c.loop-number.found c.newer-found.result c.loop-number-test.true c.loop-number.invariant c.newer-found.ensures
