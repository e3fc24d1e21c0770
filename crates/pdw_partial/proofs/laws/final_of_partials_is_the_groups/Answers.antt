use Rattle.pdw_partial.proofs.Groups.{final-partials}
use Rattle.pdw_partial.proofs.laws.final_of_partials_is_the_groups.Goals as goal

pub returns : goal.returns
returns c = final-partials
