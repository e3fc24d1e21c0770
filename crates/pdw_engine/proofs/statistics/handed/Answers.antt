use Rattle.std.proofs.Common.{◌≡◌, ℕ, ap, sym, ◌∙◌, ◌+◌, ◌++◌, ◌∷◌, [], get_or, map, take, length, arith}
use Rattle.std.specs.List.{enumerate_from}
use Rattle.std.proofs.lemmas.List.{length-take-le, map-append, take_more}
use Rattle.pdw_engine.specs.Statistics.{handed_column}
use Rattle.pdw_stats.specs.declared.stats.ColStat.{ColStat}
use Rattle.pdw_stats.proofs.ColumnLemmas.{enumerate_from-push}
use Rattle.pdw_engine.proofs.statistics.handed.Goals as goal

pub loop-place-preserved : goal.loop-place-preserved
loop-place-preserved c =
    let place = c.loop-place.place in
    let columns = c.as_slice-column-items.result.now in
    let none : ColStat = record { distinct = 0; width = 0 } in
    let column = get_or columns place none in
    let made : ℕ × ColStat → ColStat = λ of. handed_column c.args.numbers.now of.0 of.1 in
    let at : 0 + length (take place columns) ≡ place = let length = length-take-le place columns (omega (arith, c.loop-place-test.true)) in omega arith in
    let more = ap (enumerate_from 0) (take_more columns place none c.loop-place-test.true)
    ∙ enumerate_from-push 0 (take place columns) column
    ∙ ap (λ n. enumerate_from 0 (take place columns) ++ (n, column) ∷ []) at in
    c.in_ok-push.ensures.ok
    ∙ ap (λ last. c.loop-place.cols ++ last ∷ []) c.handed_column.ensures
    ∙ ap (λ before. before ++ made (place, column) ∷ []) c.loop-place.invariant
    ∙ sym (ap (map made) more ∙ map-append made (enumerate_from 0 (take place columns)) ((place, column) ∷ []))
