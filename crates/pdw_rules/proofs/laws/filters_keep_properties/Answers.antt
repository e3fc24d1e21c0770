use Rattle.pdw_rules.proofs.UnaryLemmas.{filter-stands}
use Rattle.pdw_rules.proofs.laws.filters_keep_properties.Goals as goal

pub returns : goal.returns
returns c = filter-stands
