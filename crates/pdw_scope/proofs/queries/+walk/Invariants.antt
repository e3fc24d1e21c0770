use Rattle.std.proofs.Common.{map}
use Rattle.std.specs.List.{flat_map}
use Rattle.pdw_walk.specs.Froms.{join_after, no_sources, source}
use Rattle.pdw_walk.specs.Conjuncts.{conjuncts_walk}
use Rattle.pdw_walk.specs.Queries.{condition, join, table_ref}
use Rattle.pdw_walk.specs.Walk.{over}
use Rattle.pdw_resolve.proofs.Turns.{Left}
use Rattle.pdw_scope.proofs.queries.+walk.Given as goal

abbrev pub invariant-conjuncts_of_parts-loop-part : goal.invariant-conjuncts_of_parts-loop-part
invariant-conjuncts_of_parts-loop-part l =
    Left (λ before part. conjuncts_walk l.around before (condition part).conjuncts)
    (conjuncts_walk l.around l.fn.before (flat_map (λ part. part.conjuncts) (map condition l.fn.parts)) l.initial.walk) l.parts l.part-index l.found l.walk

abbrev pub invariant-joins-loop-part : goal.invariant-joins-loop-part
invariant-joins-loop-part l =
    Left (λ left part. join_after l.catalog l.outers left (join part))
    (over (join_after l.catalog l.outers) l.fn.first (map join l.fn.parts) l.initial.walk) l.parts l.part-index l.left l.walk

abbrev pub invariant-sources-loop-table : goal.invariant-sources-loop-table
invariant-sources-loop-table l =
    Left (λ before table. source l.catalog l.outers before (table_ref table))
    (over (source l.catalog l.outers) no_sources (map table_ref l.fn.tables) l.initial.walk) l.tables l.table-index l.found l.walk
