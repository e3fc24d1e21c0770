use Rattle.std.proofs.Common.{List, [], ◌∷◌, ◌++◌, map, ap, ◌∙◌}
use Rattle.pdw_agg.proofs.GroupLemmas.{behind}
use Rattle.pdw_agg.specs.Stage.{made_row}
use Rattle.pdw_base.specs.Schema.{Env, cell, row_over}
use Rattle.pdw_base.specs.declared.value.Value.{Value}
use Rattle.pdw_agg.proofs.grouping.row_of_all.Goals as goal

pub returns : goal.returns
returns c =
    let columns = c.args.s.now in
    let of_rows : List Env → List Value = λ rows. row_over c.args.made.now (made_row c.args.stage c.args.keys.now c.args.aggs.now rows) in
    c.in_ok-push.ensures.ok
    ∙ ap (λ bag. bag ++ c.in_ok-row.row ∷ []) c.new-bag.ensures
    ∙ ap (λ row. row ∷ []) (c.in_ok-row.ensures ∙ ap of_rows (behind columns c.as_slice.result.now) ∙ ap (λ rows. of_rows (map (cell columns) (map (λ row. row.now) rows))) c.as_slice.ensures.value ∙ ap (λ rows. of_rows (map (cell columns) rows)) c.in_ok-all.ensures)
