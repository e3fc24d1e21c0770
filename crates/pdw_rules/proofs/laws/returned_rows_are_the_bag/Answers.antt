use Rattle.pdw_rules.proofs.SiteLemmas.{returned-bag}
use Rattle.pdw_rules.proofs.laws.returned_rows_are_the_bag.Goals as goal

pub returns : goal.returns
returns c = returned-bag
