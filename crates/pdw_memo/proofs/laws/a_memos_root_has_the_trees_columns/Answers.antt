use Rattle.pdw_memo.proofs.MemoRows.{memo-root_schema}
use Rattle.pdw_memo.proofs.laws.a_memos_root_has_the_trees_columns.Goals as goal

pub returns : goal.returns
returns c = memo-root_schema
