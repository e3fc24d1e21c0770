use Rattle.std.proofs.Common.{List, ◌++◌, map, sym, ap, ◌∙◌}
use Rattle.pdw_base.proofs.Steps.{flat_map-one_more}
use Rattle.pdw_base.specs.Schema.{row_over}
use Rattle.pdw_base.specs.declared.value.Value.{Value}
use Rattle.pdw_expr.specs.Rows.{scanned}
use Rattle.pdw_interpreter.proofs.scans.scanned_parts.Goals as goal

pub loop-part-preserved : goal.loop-part-preserved
loop-part-preserved c =
    let of_row = (λ (row : List Value). row_over c.args.columns.now (scanned c.args.cols.now row)) in
    let more = c.in_ok-scanned_rows.ensures ∙ ap (map of_row) c.rows.ensures in
    c.in_ok-append.ensures
    ∙ (λ j. c.loop-part.invariant j ++ more j)
    ∙ sym (flat_map-one_more c.args.parts.now c.loop-part.part-index c.part-item.result c.loop-part-test.true c.part-item.is (map of_row))
