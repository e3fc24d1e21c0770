use Rattle.pdw_enum.proofs.RootBounds.{one-more}
use Rattle.pdw_enum.proofs.root.least_bound.Goals as goal

pub loop-place-preserved : goal.loop-place-preserved
loop-place-preserved c = one-more c.args.bounds.now c.loop-place.place _ c.loop-place-test.true c.loop-place.found c.with_bound-found.result c.loop-place.invariant.least c.loop-place.invariant.there c.with_bound-found.ensures.least c.with_bound-found.ensures.there
