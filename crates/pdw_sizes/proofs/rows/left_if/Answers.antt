use Rattle.std.proofs.Common.{sym, ap, ◌∙◌, if◌then◌else◌}
use Rattle.pdw_memo.specs.Laws.{meanings_in}
use Rattle.pdw_sizes.specs.Divisor.{divisor}
use Rattle.pdw_sizes.specs.Estimate.{distinct_in, divided}
use Rattle.pdw_sizes.specs.Numbered.{columns_at}
use Rattle.pdw_sizes.proofs.rows.left_if.Goals as goal

pub returns-then-counts : goal.returns-then-counts
returns-then-counts c = λ of.
    c.divided.ensures
    ∙ ap (divided c.args.rows) (c.divisor.ensures of)
    ∙ sym (ap (λ b. if b then divided c.args.rows (divisor (distinct_in (columns_at c.args.book.now (meanings_in c.args.memo.now of) c.args.g.0)) c.args.conjunct.now) else c.args.rows) c.if-counts.true)
