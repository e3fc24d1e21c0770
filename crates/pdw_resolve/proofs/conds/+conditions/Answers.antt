use Rattle.pdw_walk.specs.Queries.{condition}
use Rattle.pdw_resolve.proofs.Spread.{each-map-begins}
use Rattle.pdw_resolve.proofs.conds.+conditions.Goals as goal

pub tests-loop-part-init : goal.tests-loop-part-init
tests-loop-part-init t c = each-map-begins (λ part. part.test c.args.place.now) condition c.args.parts.now c.new-found.result c.args.walk.now c.new-found.ensures
