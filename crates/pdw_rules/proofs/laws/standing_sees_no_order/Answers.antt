use Rattle.pdw_rules.proofs.Alike.{stands-alike}
use Rattle.pdw_rules.proofs.laws.standing_sees_no_order.Goals as goal

pub returns : goal.returns
returns c = stands-alike
