use Rattle.pdw_rules.proofs.SiteLemmas.{free-stands, made-inside}
use Rattle.pdw_rules.proofs.laws.free_changes_keep_rows.Goals as goal

pub returns-clause-stands : goal.returns-clause-stands
returns-clause-stands c = free-stands

pub returns-clause-inside : goal.returns-clause-inside
returns-clause-inside c = made-inside
