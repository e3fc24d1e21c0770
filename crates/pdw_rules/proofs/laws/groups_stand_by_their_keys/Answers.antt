use Rattle.pdw_rules.proofs.Groups.{final-stands, group-stands}
use Rattle.pdw_rules.proofs.laws.groups_stand_by_their_keys.Goals as goal

pub returns-clause-groups : goal.returns-clause-groups
returns-clause-groups c = group-stands

pub returns-clause-finals : goal.returns-clause-finals
returns-clause-finals c = final-stands
