use Rattle.pdw_bag_laws.proofs.Groups.{SameBag-distinct, SameBag-each_once, SameBag-grouped}
use Rattle.pdw_bag_laws.proofs.laws.groups_of_equal_bags_are_one_list.Goals as goal

pub returns-clause-grouped : goal.returns-clause-grouped
returns-clause-grouped c = SameBag-grouped

pub returns-clause-distinct : goal.returns-clause-distinct
returns-clause-distinct c = SameBag-distinct

pub returns-clause-once : goal.returns-clause-once
returns-clause-once c = SameBag-each_once
