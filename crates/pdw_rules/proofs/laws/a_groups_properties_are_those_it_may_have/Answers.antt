use Rattle.pdw_rules.proofs.Listed.{listed}
use Rattle.pdw_rules.proofs.laws.a_groups_properties_are_those_it_may_have.Goals as goal

pub returns : goal.returns
returns c = listed
