use Rattle.std.proofs.Common.{ap, ◌∙◌}
use Rattle.pdw_sizes.specs.Estimate.{known}
use Rattle.pdw_stats.specs.declared.stats.ColStat.{ColStat}
use Rattle.pdw_sizes.proofs.divisors.distinct_at.Goals as goal

pub returns : goal.returns
returns c = λ of. ap (λ (column : ColStat). column.distinct) (c.known.ensures ∙ ap known (c.column_at.ensures of))
