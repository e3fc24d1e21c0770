use Rattle.pdw_stats.proofs.MeasuredLemmas.{measured-SameBag}
use Rattle.pdw_stats.proofs.measuring.measures_of_equal_bags_are_equal.Goals as goal

pub returns : goal.returns
returns c = measured-SameBag
