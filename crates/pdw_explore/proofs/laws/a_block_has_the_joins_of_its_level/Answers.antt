use Rattle.pdw_explore.proofs.JoinCounts.{memo-joins}
use Rattle.pdw_explore.proofs.laws.a_block_has_the_joins_of_its_level.Goals as goal

pub returns : goal.returns
returns c = memo-joins
