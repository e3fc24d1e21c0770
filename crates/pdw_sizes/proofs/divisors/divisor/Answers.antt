use Rattle.std.proofs.Common.{ℕ, sym, ap, ◌∙◌}
use Rattle.pdw_base.specs.declared.schema.ColId.{ColId}
use Rattle.pdw_memo.specs.Laws.{meanings_in}
use Rattle.pdw_sizes.proofs.EstimateFolds.{divisor-compare}
use Rattle.pdw_sizes.specs.Divisor.{compare_divisor, divisor}
use Rattle.pdw_sizes.specs.Estimate.{distinct_in}
use Rattle.pdw_sizes.specs.Numbered.{columns_at}
use Rattle.pdw_sizes.proofs.divisors.divisor.Goals as goal

pub returns-in-Compare : goal.returns-in-Compare
returns-in-Compare c = λ of.
    let distinct : ColId → ℕ = distinct_in (columns_at c.args.book.now (meanings_in c.args.memo.now of) c.args.g.0) in
    c.compare_divisor.ensures of
    ∙ (λ i. compare_divisor distinct c.in-Compare.compare (c.side_of.ensures i) (c.side_of-in-Compare.ensures i))
    ∙ sym (ap (divisor distinct) c.in-Compare.is ∙ divisor-compare distinct c.in-Compare.compare c.in-Compare.left c.in-Compare.right)
