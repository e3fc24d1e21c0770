use Rattle.pdw_expr.proofs.MatchLaws.{matches-from_Matches, Matches-from_matches}
use Rattle.pdw_expr.proofs.laws.like_follows_its_rules.Goals as goal

pub returns : goal.returns
returns c pattern text = (Matches-from_matches pattern text, matches-from_Matches pattern text)
