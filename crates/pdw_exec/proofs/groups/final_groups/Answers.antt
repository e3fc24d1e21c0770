use Rattle.std.proofs.Common.{All, ap, subst, ◌∙◌}
use Rattle.pdw_agg.specs.Columns.{final_schema}
use Rattle.pdw_agg.specs.Fitting.{CanFinish}
use Rattle.pdw_agg.specs.Grouping.{final_over}
use Rattle.pdw_base.specs.SameBag.{SameBag}
use Rattle.pdw_base.specs.Schema.{FitsColumns}
use Rattle.pdw_exec.proofs.GivesLemmas.{final-gives}
use Rattle.pdw_exec.specs.Relation.{rows_in}
use Rattle.pdw_exec.proofs.groups.final_groups.Goals as goal

pub returns : goal.returns
returns c =
    let keys = c.args.keys.now in
    let aggs = c.args.aggs.now in
    let columns = c.args.child.now.columns in
    let bag = c.in_ok-bag.bag in
    final-gives keys aggs columns (rows_in c.args.child.now.rows) bag c.in_ok-columns.columns
    (c.in_ok-columns.ensures ∙ ap (final_schema keys aggs) c.cols.ensures.columns)
    (subst (λ rows. SameBag bag (final_over keys aggs columns rows)) c.bag.ensures c.in_ok-bag.ensures.rows)
    (subst (λ rows. CanFinish keys aggs columns rows → All (FitsColumns (final_schema keys aggs columns)) bag) c.bag.ensures c.in_ok-bag.ensures.fits)
