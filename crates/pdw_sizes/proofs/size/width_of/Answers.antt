use Rattle.std.proofs.Common.{take, ap, ◌∙◌, min}
use Rattle.std.proofs.lemmas.List.{take_all}
use Rattle.std.specs.List.{sum_by}
use Rattle.pdw_base.specs.declared.schema.ColId.{ColId}
use Rattle.pdw_base.specs.declared.value.Kind.{Kind}
use Rattle.pdw_base.specs.declared.value.Kind.TheVariants as kind
use Rattle.pdw_memo.specs.Laws.{meanings_in}
use Rattle.pdw_sizes.proofs.LoopLaws.{sum-more}
use Rattle.pdw_sizes.proofs.MadeLaws.{width-all, width-more}
use Rattle.pdw_sizes.specs.Estimate.{width_in}
use Rattle.pdw_sizes.specs.Numbered.{columns_at}
use Rattle.pdw_sizes.proofs.size.width_of.Goals as goal

pub loop-column-preserved : goal.loop-column-preserved
loop-column-preserved c = λ of.
    width-more c.saturating_add-width.result c.loop-column.width c.width_at.result (sum_by (λ (column : ColId × Kind). width_in (columns_at c.args.book.now (meanings_in c.args.memo.now of) c.args.g.0) column.0) (take c.loop-column.column-index c.args.schema.now)) _ _ (c.loop-column.invariant of) (c.width_at.ensures of)
    (sum-more (λ (column : ColId × Kind). width_in (columns_at c.args.book.now (meanings_in c.args.memo.now of) c.args.g.0) column.0) c.args.schema.now c.loop-column.column-index (record { 0 = 0 }, kind.Int) c.loop-column-test.true) c.saturating_add-width.ensures

pub returns : goal.returns
returns c = λ of.
    width-all c.max.result c.loop-column.width (sum_by (λ (column : ColId × Kind). width_in (columns_at c.args.book.now (meanings_in c.args.memo.now of) c.args.g.0) column.0) c.args.schema.now)
    (c.loop-column.invariant of ∙ ap (λ columns. min 4294967295 (sum_by (λ (column : ColId × Kind). width_in (columns_at c.args.book.now (meanings_in c.args.memo.now of) c.args.g.0) column.0) columns)) (take_all c.loop-column.column-index c.args.schema.now c.loop-column-test.false)) c.max.ensures
