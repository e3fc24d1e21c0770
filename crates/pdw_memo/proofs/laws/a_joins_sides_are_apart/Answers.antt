use Rattle.pdw_memo.proofs.MemoSides.{memo-sides}
use Rattle.pdw_memo.proofs.laws.a_joins_sides_are_apart.Goals as goal

pub returns : goal.returns
returns c = memo-sides
