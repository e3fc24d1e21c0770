use Rattle.std.proofs.Common.{sym, ap, ap₂, ◌∙◌}
use Rattle.std.proofs.lemmas.List.{take_all}
use Rattle.pdw_memo.specs.Laws.{meanings_in}
use Rattle.pdw_sizes.proofs.LoopLaws.{lists-more}
use Rattle.pdw_sizes.specs.Estimate.{times}
use Rattle.pdw_sizes.specs.Numbered.{columns_at, key_lists}
use Rattle.pdw_sizes.proofs.rows.key_lists.Goals as goal

pub loop-key-preserved : goal.loop-key-preserved
loop-key-preserved c = λ of.
    c.times-lists.ensures
    ∙ ap₂ times (c.loop-key.invariant of) (c.distinct_at.ensures of)
    ∙ sym (lists-more (columns_at c.args.book.now (meanings_in c.args.memo.now of) c.args.g.0) c.args.keys.now c.loop-key.key-index (record { 0 = 0 }) c.loop-key-test.true)

pub returns : goal.returns
returns c = λ of.
    c.loop-key.invariant of ∙ ap (key_lists (columns_at c.args.book.now (meanings_in c.args.memo.now of) c.args.g.0)) (take_all c.loop-key.key-index c.args.keys.now c.loop-key-test.false)
