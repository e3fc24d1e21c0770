use Rattle.std.proofs.Common.{filter, sym, ap, ◌∙◌, if◌then◌else◌}
use Rattle.std.proofs.lemmas.List.{take_all}
use Rattle.pdw_memo.specs.Laws.{meanings_in}
use Rattle.pdw_parts.specs.Part.{is_inside}
use Rattle.pdw_sizes.proofs.LoopLaws.{inside-more}
use Rattle.pdw_sizes.specs.Divisor.{divisor}
use Rattle.pdw_sizes.specs.Estimate.{distinct_in, divided, rows_left}
use Rattle.pdw_sizes.specs.Numbered.{columns_at}
use Rattle.pdw_sizes.proofs.rows.rows_inside.Goals as goal

pub loop-conjunct-preserved : goal.loop-conjunct-preserved
loop-conjunct-preserved c = λ of.
    c.left_if-left.ensures of
    ∙ (λ i. if c.is_inside.ensures i then divided (c.loop-conjunct.invariant of i) (divisor (distinct_in (columns_at c.args.book.now (meanings_in c.args.memo.now of) c.args.g.0)) c.conjunct-item.result) else c.loop-conjunct.invariant of i)
    ∙ sym (inside-more (columns_at c.args.book.now (meanings_in c.args.memo.now of) c.args.g.0) c.args.rows (is_inside c.args.schema.now) c.args.conds.now c.loop-conjunct.conjunct-index c.conjunct-item.result c.loop-conjunct-test.true c.conjunct-item.is)

pub returns : goal.returns
returns c = λ of.
    c.loop-conjunct.invariant of
    ∙ ap (λ conds. rows_left (columns_at c.args.book.now (meanings_in c.args.memo.now of) c.args.g.0) c.args.rows (filter (is_inside c.args.schema.now) conds)) (take_all c.loop-conjunct.conjunct-index c.args.conds.now c.loop-conjunct-test.false)
