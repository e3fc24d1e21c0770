use Rattle.pdw_memo.proofs.MemoDiffers.{memo-differ}
use Rattle.pdw_memo.proofs.laws.expressions_of_a_group_differ.Goals as goal

pub returns : goal.returns
returns c = memo-differ
