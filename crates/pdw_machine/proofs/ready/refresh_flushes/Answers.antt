use Rattle.std.proofs.Common.{◌∙◌, arith}
use Rattle.pdw_machine.specs.Machine.{can_flush, no_lane, source_at}
use Rattle.pdw_machine.proofs.GridLemmas.{row_more}
use Rattle.pdw_machine.proofs.ready.refresh_flushes.Goals as goal

pub loop-to-preserved : goal.loop-to-preserved
loop-to-preserved c =
    let wide = c.requires.shaped.lanes c.args.from c.requires.inside in
    c.set.ensures
    ∙ row_more can_flush (source_at c.args.from c.args.state.now).lanes c.args.flushes.now c.loop-to.flushes c.args.from c.loop-to.to c.args.nodes c.can_flush.result no_lane
    wide (omega arith) c.requires.row c.can_flush.ensures c.loop-to.invariant
