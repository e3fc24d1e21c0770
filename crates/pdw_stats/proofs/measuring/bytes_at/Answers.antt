use Rattle.std.proofs.Common.{arith, ap, sum_by}
use Rattle.pdw_stats.specs.Measured.{bytes_of, column_at}
use Rattle.pdw_stats.proofs.ColumnLemmas.{bytes-part}
use Rattle.pdw_stats.proofs.measuring.bytes_at.Goals as goal

pub bytes_in-bytes-requires : goal.bytes_in-bytes-requires
bytes_in-bytes-requires c = λ place.
    let part = bytes-part place c.loop-part.part-index c.args.parts.now c.part-item.result c.loop-part-test.true c.part-item.is in
    let rows = ap (λ rows. sum_by bytes_of (column_at place rows)) c.rows.ensures in
    let few = c.requires place in
    omega arith

pub overflow_add-bytes : goal.overflow_add-bytes
overflow_add-bytes c =
    let place = c.args.place in
    let part = bytes-part place c.loop-part.part-index c.args.parts.now c.part-item.result c.loop-part-test.true c.part-item.is in
    let rows = ap (λ rows. sum_by bytes_of (column_at place rows)) c.rows.ensures in
    let few = c.requires place in
    omega (arith, c.loop-part.invariant, c.bytes_in-bytes.ensures)
