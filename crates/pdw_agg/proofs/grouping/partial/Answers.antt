use Rattle.std.proofs.Common.{All, subst}
use Rattle.std.proofs.lemmas.Result.{IfOk-weaker}
use Rattle.pdw_agg.proofs.MadeLaws.{made-partials, made-partials_fit}
use Rattle.pdw_agg.specs.Columns.{partial_schema}
use Rattle.pdw_agg.specs.Fitting.{CanKeep}
use Rattle.pdw_agg.specs.Grouping.{partial_over}
use Rattle.pdw_agg.specs.Made.{made_columns, rows_of}
use Rattle.pdw_agg.specs.declared.stage.Stage.TheVariants.{Partial}
use Rattle.pdw_algebra.specs.Schema.{rising}
use Rattle.pdw_base.specs.SameBag.{SameBag}
use Rattle.pdw_base.specs.Schema.{FitsColumns}
use Rattle.pdw_agg.proofs.grouping.partial.Goals as goal

pub returns-clause-rows : goal.returns-clause-rows
returns-clause-rows c =
    let keys = c.args.keys.now in
    let aggs = c.args.aggs.now in
    let columns = c.args.s.now in
    let rows = c.args.input.now in
    IfOk-weaker c.made_rows.result (λ bag. SameBag bag (rows_of (rising (made_columns keys aggs)) Partial keys aggs columns c.rows.result.now)) (λ bag. SameBag bag (partial_over keys aggs columns rows))
    (λ bag same. made-partials keys aggs columns rows bag (subst (λ rows. SameBag bag (rows_of (rising (made_columns keys aggs)) Partial keys aggs columns rows)) c.rows.ensures same)) c.made_rows.ensures

pub returns-clause-fits : goal.returns-clause-fits
returns-clause-fits c =
    let keys = c.args.keys.now in
    let aggs = c.args.aggs.now in
    let columns = c.args.s.now in
    let rows = c.args.input.now in
    IfOk-weaker c.made_rows.result (λ bag. SameBag bag (rows_of (rising (made_columns keys aggs)) Partial keys aggs columns c.rows.result.now)) (λ bag. CanKeep keys aggs columns rows → All (FitsColumns (partial_schema keys aggs columns)) bag)
    (λ bag same. made-partials_fit keys aggs columns rows bag (subst (λ rows. SameBag bag (rows_of (rising (made_columns keys aggs)) Partial keys aggs columns rows)) c.rows.ensures same)) c.made_rows.ensures
