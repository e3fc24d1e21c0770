use Rattle.pdw_enum.proofs.MadeGroups.{memo-made}
use Rattle.pdw_enum.proofs.laws.each_group_is_made.Goals as goal

pub returns : goal.returns
returns c = memo-made
