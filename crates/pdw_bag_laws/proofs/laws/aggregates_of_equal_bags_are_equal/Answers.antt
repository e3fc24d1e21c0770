use Rattle.pdw_bag_laws.proofs.Aggregates.{SameBag-aggregated, SameBag-partial_value}
use Rattle.pdw_bag_laws.proofs.laws.aggregates_of_equal_bags_are_equal.Goals as goal

pub returns-clause-whole : goal.returns-clause-whole
returns-clause-whole c = SameBag-aggregated

pub returns-clause-part : goal.returns-clause-part
returns-clause-part c = SameBag-partial_value
