use Rattle.pdw_base.proofs.ComparisonLemmas.{value_cmp-total, value_cmp-Equal}
use Rattle.pdw_base.proofs.comparison.order_is_total.Goals as goal

pub returns-clause-total : goal.returns-clause-total
returns-clause-total c = value_cmp-total

pub returns-clause-equal_only : goal.returns-clause-equal_only
returns-clause-equal_only c = value_cmp-Equal
