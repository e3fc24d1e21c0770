use Rattle.std.proofs.Common.{List, ◌∷◌, [], ◌++◌, map, sym, ap, ◌∙◌}
use Rattle.pdw_base.proofs.Steps.{map-one_more}
use Rattle.pdw_base.specs.Schema.{cell, row_over}
use Rattle.pdw_base.specs.declared.value.Value.{Value}
use Rattle.pdw_expr.specs.Rows.{group_row}
use Rattle.pdw_interpreter.proofs.groups.group_rows.Goals as goal

pub loop-group-preserved : goal.loop-group-preserved
loop-group-preserved c =
    let of_group = λ (group : List (List Value)). row_over c.args.made.now (group_row c.args.keys.now c.args.aggs.now (map (cell c.args.columns.now) group)) in
    let row = c.in_ok-group_row.ensures ∙ ap of_group c.as_slice.ensures in
    c.in_ok-push.ensures.ok
    ∙ (λ j. c.loop-group.invariant j ++ row j ∷ [])
    ∙ sym (map-one_more c.args.groups.now c.loop-group.group-index c.group-item.result c.loop-group-test.true c.group-item.is of_group)
