use Rattle.pdw_agg.proofs.MergeLaws.{merged-groups}
use Rattle.pdw_agg.proofs.laws.merged_partials_are_the_groups.Goals as goal

pub returns : goal.returns
returns c = merged-groups
