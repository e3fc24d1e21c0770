use Rattle.pdw_memo.proofs.MemoExprs.{memo-exprs}
use Rattle.pdw_memo.proofs.laws.each_group_has_an_expression.Goals as goal

pub returns : goal.returns
returns c = memo-exprs
