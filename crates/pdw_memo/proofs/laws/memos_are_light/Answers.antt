use Rattle.pdw_memo.proofs.MemoWeights.{memo-light}
use Rattle.pdw_memo.proofs.laws.memos_are_light.Goals as goal

pub returns : goal.returns
returns c = memo-light
