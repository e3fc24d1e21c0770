use Rattle.pdw_rules.proofs.Scans.{scan-stands}
use Rattle.pdw_rules.proofs.laws.scans_stand_by_their_placing.Goals as goal

pub returns : goal.returns
returns c contents sound cols different = scan-stands cols contents sound different
