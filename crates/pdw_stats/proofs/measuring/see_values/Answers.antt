use Rattle.std.proofs.Common.{◌∷◌, [], sym, subst, take}
use Rattle.pdw_base.proofs.Steps.{map-one_more}
use Rattle.pdw_catalog.specs.Table.{value_at}
use Rattle.pdw_stats.specs.Known.{Sees}
use Rattle.pdw_stats.specs.Measured.{column_at}
use Rattle.pdw_stats.proofs.DistinctLemmas.{Sees-append}
use Rattle.pdw_stats.proofs.measuring.see_values.Goals as goal

pub loop-row-preserved : goal.loop-row-preserved
loop-row-preserved c =
    let place = c.args.place in
    let rows = c.args.rows.now in
    let row = c.row-item.result in
    let old = c.args.seen.now.keys in
    let now = c.see.new.seen.keys in
    subst (Sees old now) (sym (map-one_more rows c.loop-row.row-index row c.loop-row-test.true c.row-item.is (value_at place)))
    (Sees-append old c.loop-row.seen.keys now (column_at place (take c.loop-row.row-index rows)) (value_at place row ∷ []) c.loop-row.invariant
    (subst (λ value. Sees c.loop-row.seen.keys now (value ∷ [])) c.cell.ensures c.in_ok-see.ensures))
