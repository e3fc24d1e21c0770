use Rattle.std.proofs.Common.{◌≡◌, ℕ, ap, ap₂, sym, ◌∙◌, ◌+◌, ◌++◌, ◌∷◌, [], map, take, length, arith}
use Rattle.std.specs.List.{enumerate_from}
use Rattle.std.proofs.lemmas.List.{length-take-le, map-append}
use Rattle.pdw_base.proofs.Steps.{take-one_more}
use Rattle.pdw_catalog.specs.declared.table.Column.{Column}
use Rattle.pdw_stats.specs.Measured.{column_at, measured_column}
use Rattle.pdw_stats.specs.declared.stats.ColStat.{ColStat}
use Rattle.pdw_stats.proofs.ColumnLemmas.{all_rows, enumerate_from-push}
use Rattle.pdw_stats.proofs.measuring.measure_columns.Goals as goal

pub loop-place-preserved : goal.loop-place-preserved
loop-place-preserved c =
    let rows = all_rows c.args.parts.now in
    let place = c.loop-place.place in
    let columns = c.args.columns.now in
    let column = c.index-columns-place.result in
    let stat : ℕ × Column → ColStat = λ numbered. measured_column numbered.1.kind (column_at numbered.0 rows) in
    let at : 0 + length (take place columns) ≡ place = let length = length-take-le place columns (omega (arith, c.loop-place-test.true)) in omega arith in
    let more = ap (enumerate_from 0) (take-one_more columns place column c.loop-place-test.true c.index-columns-place.is)
    ∙ enumerate_from-push 0 (take place columns) column
    ∙ ap (λ n. enumerate_from 0 (take place columns) ++ (n, column) ∷ []) at in
    c.in_ok-push.ensures.ok
    ∙ ap₂ (λ before last. before ++ last ∷ []) c.loop-place.invariant c.in_ok-measure_column.ensures
    ∙ sym (ap (map stat) more ∙ map-append stat (enumerate_from 0 (take place columns)) ((place, column) ∷ []))
