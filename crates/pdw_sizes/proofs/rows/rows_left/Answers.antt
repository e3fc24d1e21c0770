use Rattle.std.proofs.Common.{sym, ap, ap₂, ◌∙◌}
use Rattle.std.proofs.lemmas.List.{take_all}
use Rattle.pdw_memo.specs.Laws.{meanings_in}
use Rattle.pdw_sizes.proofs.LoopLaws.{left-more}
use Rattle.pdw_sizes.specs.Estimate.{divided, rows_left}
use Rattle.pdw_sizes.specs.Numbered.{columns_at}
use Rattle.pdw_sizes.proofs.rows.rows_left.Goals as goal

pub loop-conjunct-preserved : goal.loop-conjunct-preserved
loop-conjunct-preserved c = λ of.
    c.divided-left.ensures
    ∙ ap₂ divided (c.loop-conjunct.invariant of) (c.divisor.ensures of)
    ∙ sym (left-more (columns_at c.args.book.now (meanings_in c.args.memo.now of) c.args.g.0) c.args.rows c.args.conds.now c.loop-conjunct.conjunct-index c.conjunct-item.result c.loop-conjunct-test.true c.conjunct-item.is)

pub returns : goal.returns
returns c = λ of.
    c.loop-conjunct.invariant of ∙ ap (rows_left (columns_at c.args.book.now (meanings_in c.args.memo.now of) c.args.g.0) c.args.rows) (take_all c.loop-conjunct.conjunct-index c.args.conds.now c.loop-conjunct-test.false)
