use Rattle.pdw_keys.specs.Places.{key_at}
use Rattle.pdw_select.proofs.OutputLemmas.{rows-more}
use Rattle.pdw_select.proofs.outputs.add_rows.Goals as goal

pub loop-row-preserved : goal.loop-row-preserved
loop-row-preserved c =
    rows-more (key_at c.args.places.now) c.args.bag.now c.loop-row.row-index c.row-item.result c.loop-row-test.true c.row-item.is
    c.args.rows.now.items c.loop-row.rows.items c.push.new.self.items c.in_ok-output_row.field-0
    c.loop-row.invariant c.in_ok-output_row.ensures c.in_ok-push.ensures.items
