use Rattle.pdw_memo.proofs.MemoScans.{memo-scans}
use Rattle.pdw_memo.proofs.laws.a_memos_scans_are_of_its_tables.Goals as goal

pub returns : goal.returns
returns c = memo-scans
