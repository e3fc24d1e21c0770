use Rattle.pdw_memo.proofs.MemoColumns.{memo-interesting, memo-keys}
use Rattle.pdw_memo.proofs.MemoRows.{memo-within}
use Rattle.pdw_memo.proofs.laws.a_memo_names_its_columns.Goals as goal

pub returns-clause-rows : goal.returns-clause-rows
returns-clause-rows c = memo-within

pub returns-clause-interesting : goal.returns-clause-interesting
returns-clause-interesting c = memo-interesting

pub returns-clause-keys : goal.returns-clause-keys
returns-clause-keys c = memo-keys
