use Rattle.pdw_reading.proofs.PlaceLaws.{one_meaning}
use Rattle.pdw_reading.proofs.laws.statements_are_unique.Goals as goal

pub returns : goal.returns
returns c = one_meaning
