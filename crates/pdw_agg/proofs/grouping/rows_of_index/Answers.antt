use Rattle.std.proofs.Common.{List, [], ◌∷◌, ◌++◌, map, sym, ap, ◌∙◌}
use Rattle.pdw_agg.proofs.GroupLemmas.{behind, none-more, one-more}
use Rattle.pdw_agg.specs.Made.{row_of}
use Rattle.pdw_agg.specs.Stage.{made_row}
use Rattle.pdw_base.specs.Schema.{Env, cell, row_over}
use Rattle.pdw_base.specs.declared.value.Value.{Value}
use Rattle.pdw_agg.proofs.grouping.rows_of_index.Goals as goal
use Rattle.pdw_agg.proofs.grouping.rows_of_index.Goals.{in-Some+in_ok-made_row-in-Some+in_ok-push-in-Some, in-None}

pub loop-place-preserved : goal.loop-place-preserved
loop-place-preserved c =
    let columns = c.args.s.now in
    let of_rows : List Env → List Value = λ rows. row_over c.args.made.now (made_row c.args.stage c.args.keys.now c.args.aggs.now rows) in
    let of_part : List (List Value) → List Value = row_of c.args.made.now c.args.stage c.args.keys.now c.args.aggs.now columns in
    let parts : List (List (List Value)) = map (λ entry. entry.1) c.args.index.now in
    elim c.match-part.branch [
      | in-Some+in_ok-made_row-in-Some+in_ok-push-in-Some w ↦
          one-more of_part parts c.loop-place.place c.loop-place.bag c.loop-place.invariant (map (λ row. row.now) w.in-Some.part.now.items) c.match-part.bag
          (sym w.in-Some.ensures)
          (w.bag-is ∙ w.in_ok-push-in-Some.ensures.ok ∙ ap (λ row. c.loop-place.bag ++ row ∷ []) (w.in_ok-made_row-in-Some.ensures ∙ ap of_rows (behind columns w.as_slice.result.now) ∙ ap (λ rows. of_rows (map (cell columns) (map (λ row. row.now) rows))) w.as_slice.ensures.value))
      | in-None w ↦
          let before = none-more of_part parts c.loop-place.place c.loop-place.bag c.loop-place.invariant (sym w.in-None.ensures) in
          w.bag-is ∙ before
    ]
