use Rattle.pdw_rules.proofs.JoinLemmas.{join-stands}
use Rattle.pdw_rules.proofs.laws.joins_stand_by_their_rules.Goals as goal

pub returns : goal.returns
returns c = join-stands
