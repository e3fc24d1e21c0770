use Rattle.std.proofs.Common.{List, ◌∷◌, [], ◌++◌, sym, ◌∙◌}
use Rattle.pdw_base.proofs.Steps.{map-one_more}
use Rattle.pdw_base.specs.Schema.{cell, row_over}
use Rattle.pdw_base.specs.declared.value.Value.{Value}
use Rattle.pdw_expr.specs.Rows.{projected}
use Rattle.pdw_exec.proofs.projection.projected_rows.Goals as goal

pub loop-row-preserved : goal.loop-row-preserved
loop-row-preserved c =
    let of_row = λ (row : List Value). row_over c.args.columns.now (projected c.args.items.now (cell c.args.own.now row)) in
    c.in_ok-push.ensures.ok
    ∙ (λ j. c.loop-row.invariant j ++ c.in_ok-projected_row.ensures j ∷ [])
    ∙ sym (map-one_more c.args.rows.now c.loop-row.row-index c.row-item.result c.loop-row-test.true c.row-item.is of_row)
