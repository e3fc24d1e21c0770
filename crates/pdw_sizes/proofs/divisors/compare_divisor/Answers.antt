use Rattle.std.proofs.Common.{sym, ap, ◌∙◌}
use Rattle.pdw_memo.specs.Laws.{meanings_in}
use Rattle.pdw_sizes.specs.Divisor.{compare_divisor}
use Rattle.pdw_sizes.specs.Estimate.{distinct_in}
use Rattle.pdw_sizes.specs.Numbered.{columns_at}
use Rattle.pdw_sizes.proofs.divisors.compare_divisor.Goals as goal

pub returns-in-Eq : goal.returns-in-Eq
returns-in-Eq c = λ of.
    c.equality_divisor.ensures of
    ∙ sym (ap (λ compare. compare_divisor (distinct_in (columns_at c.args.book.now (meanings_in c.args.memo.now of) c.args.g.0)) compare c.args.left c.args.right) c.in-Eq.is)
