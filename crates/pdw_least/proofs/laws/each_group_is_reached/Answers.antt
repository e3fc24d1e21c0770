use Rattle.pdw_least.proofs.ReachedLemmas.{each-reached}
use Rattle.pdw_least.proofs.laws.each_group_is_reached.Goals as goal

pub returns : goal.returns
returns c = λ groups costs bound valid ordered made. each-reached groups costs bound valid ordered made
