use Rattle.std.proofs.Common.{max, sym, ap₂, ◌∙◌}
use Rattle.pdw_memo.specs.Laws.{meanings_in}
use Rattle.pdw_sizes.specs.Divisor.{equality_divisor}
use Rattle.pdw_sizes.specs.Estimate.{distinct_in}
use Rattle.pdw_sizes.specs.Numbered.{columns_at}
use Rattle.pdw_sizes.proofs.divisors.equality_divisor.Goals as goal

pub returns-in-Column-Column : goal.returns-in-Column-Column
returns-in-Column-Column c = λ of.
    c.max.ensures
    ∙ ap₂ max (c.distinct_at.ensures of) (c.distinct_at-in-Column-Column.ensures of)
    ∙ sym (λ i. equality_divisor (distinct_in (columns_at c.args.book.now (meanings_in c.args.memo.now of) c.args.g.0)) (c.in-Column-Column.is-0 i) (c.in-Column-Column.is-1 i))

pub returns-in-Column-Constant : goal.returns-in-Column-Constant
returns-in-Column-Constant c = λ of.
    c.distinct_at-in-Column-Constant.ensures of
    ∙ sym (λ i. equality_divisor (distinct_in (columns_at c.args.book.now (meanings_in c.args.memo.now of) c.args.g.0)) (c.in-Column-Constant.is-0 i) (c.in-Column-Constant.is-1 i))

pub returns-in-Constant-Column : goal.returns-in-Constant-Column
returns-in-Constant-Column c = λ of.
    c.distinct_at-in-Constant-Column.ensures of
    ∙ sym (λ i. equality_divisor (distinct_in (columns_at c.args.book.now (meanings_in c.args.memo.now of) c.args.g.0)) (c.in-Constant-Column.is-0 i) (c.in-Constant-Column.is-1 i))
