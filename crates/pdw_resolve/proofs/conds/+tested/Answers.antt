use Rattle.pdw_walk.specs.Queries.{condition}
use Rattle.pdw_walk.specs.Walk.{gathering}
use Rattle.pdw_resolve.proofs.Nodes.{one-tested}
use Rattle.pdw_resolve.proofs.Spread.{flat_map-begins}
use Rattle.pdw_resolve.proofs.conds.+tested.Goals as goal

pub tested_parts-loop-part-init : goal.tested_parts-loop-part-init
tested_parts-loop-part-init t c = flat_map-begins (gathering (λ x. x.test c.args.place.now)) (λ part. part.conjuncts) condition c.args.parts.now c.args.before c.args.walk.now

pub tested_after-returns-in-InQuery : goal.tested_after-returns-in-InQuery
tested_after-returns-in-InQuery t c = rw (one-tested c.args.place.now c.args.before c.args.walk.now c.args.cond.now c.in-InQuery.is) c.tested_one.ensures
