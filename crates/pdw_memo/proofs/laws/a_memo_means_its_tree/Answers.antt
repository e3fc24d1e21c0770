use Rattle.pdw_memo.proofs.MemoMeans.{memo-each, memo-root, memo-stands}
use Rattle.pdw_memo.proofs.laws.a_memo_means_its_tree.Goals as goal

pub returns-clause-each : goal.returns-clause-each
returns-clause-each c = memo-each

pub returns-clause-stands : goal.returns-clause-stands
returns-clause-stands c = memo-stands

pub returns-clause-root : goal.returns-clause-root
returns-clause-root c = memo-root
