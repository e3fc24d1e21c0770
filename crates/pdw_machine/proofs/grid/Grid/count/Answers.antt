use Rattle.std.proofs.Common.{arith}
use Rattle.pdw_machine.proofs.FlagLemmas.{grid_count_more}
use Rattle.pdw_machine.proofs.grid.Grid.count.Goals as goal

pub loop-row-preserved : goal.loop-row-preserved
loop-row-preserved c =
    let more = grid_count_more c.deref-row-items.result.now c.loop-row.row-index c.row-item.result c.loop-row-test.true c.row-item.is in
    (omega (arith, c.loop-row.invariant.0, c.count-count.ensures.count), omega (arith, c.loop-row.invariant.1, c.count-count.ensures.most))
