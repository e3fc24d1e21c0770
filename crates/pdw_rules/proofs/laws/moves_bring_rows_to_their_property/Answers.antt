use Rattle.pdw_rules.proofs.Moves.{move-bags, move-inside, move-stands}
use Rattle.pdw_rules.proofs.laws.moves_bring_rows_to_their_property.Goals as goal

pub returns-clause-stands : goal.returns-clause-stands
returns-clause-stands c = move-stands

pub returns-clause-inside : goal.returns-clause-inside
returns-clause-inside c = move-inside

pub returns-clause-bags : goal.returns-clause-bags
returns-clause-bags c = move-bags
