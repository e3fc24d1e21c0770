use Rattle.std.proofs.Common.{refl}
use Rattle.pdw_walk.specs.Froms.{join_after, no_sources, source}
use Rattle.pdw_walk.specs.Conjuncts.{conjunct_walk}
use Rattle.pdw_walk.specs.Queries.{condition, join, table_ref}
use Rattle.pdw_resolve.proofs.Spread.{flat_map-begins, map-begins}
use Rattle.pdw_scope.proofs.queries.+walk.Goals as goal

pub conjuncts_of_parts-loop-part-init : goal.conjuncts_of_parts-loop-part-init
conjuncts_of_parts-loop-part-init t c = flat_map-begins (conjunct_walk c.args.around.now) (λ part. part.conjuncts) condition c.args.parts.now c.args.before c.args.walk.now

pub joins-loop-part-init : goal.joins-loop-part-init
joins-loop-part-init t c = map-begins (join_after c.args.catalog.now c.args.outers.now) join c.args.parts.now c.args.first c.args.first c.args.walk.now refl

pub sources-loop-table-init : goal.sources-loop-table-init
sources-loop-table-init t c =
    map-begins (source c.args.catalog.now c.args.outers.now) table_ref c.args.tables.now no_sources c.no_sources-found.result c.args.walk.now c.no_sources-found.ensures
