use Rattle.std.proofs.Common.{◌∷◌, [], ◌++◌, map, take, sym, ap, ◌∙◌}
use Rattle.std.proofs.lemmas.List.{map-append}
use Rattle.pdw_base.proofs.Steps.{map-one_more}
use Rattle.pdw_base.specs.Schema.{cell}
use Rattle.pdw_expr.specs.Rows.{argument}
use Rattle.pdw_interpreter.proofs.groups.arguments.Goals as goal

pub loop-row-preserved : goal.loop-row-preserved
loop-row-preserved c =
    let of_row = cell c.args.columns.now in
    let value = argument c.args.arg.now in
    let row = c.row-item.result in
    let before = map of_row (take c.loop-row.row-index c.args.group.now) in
    c.in_ok-push.ensures.ok
    ∙ (λ j. c.loop-row.invariant j ++ c.in_ok-argument.ensures j ∷ [])
    ∙ sym (map-append value before (of_row row ∷ []))
    ∙ ap (map value) (sym (map-one_more c.args.group.now c.loop-row.row-index row c.loop-row-test.true c.row-item.is of_row))
