use Rattle.pdw_partial.proofs.Admitted.{IsPartial-one}
use Rattle.pdw_partial.proofs.laws.partials_of_one_bag_are_admitted.Goals as goal

pub returns : goal.returns
returns c = IsPartial-one
