use Rattle.std.proofs.Common.{arith, ap, ◌∙◌}
use Rattle.pdw_stats.specs.Measured.{bytes_of}
use Rattle.pdw_stats.proofs.ColumnLemmas.{bytes-row}
use Rattle.pdw_stats.proofs.measuring.bytes_in.Goals as goal

pub overflow_add-bytes : goal.overflow_add-bytes
overflow_add-bytes c =
    let row = c.row-item.result in
    let part = bytes-row c.args.place c.loop-row.row-index c.args.rows.now row c.loop-row-test.true c.row-item.is in
    let size = c.size-bytes.ensures ∙ ap bytes_of c.cell.ensures in
    let few = c.requires c.args.place in
    omega (arith, c.loop-row.invariant)
