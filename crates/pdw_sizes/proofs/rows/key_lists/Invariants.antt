use Rattle.std.proofs.Common.{◌≡◌, take}
use Rattle.pdw_memo.specs.Laws.{meanings_in}
use Rattle.pdw_memo.specs.Memo.{IsMemo}
use Rattle.pdw_sizes.specs.Numbered.{columns_at, key_lists}
use Rattle.pdw_sizes.proofs.rows.key_lists.Given as goal

abbrev pub invariant-loop-key : goal.invariant-loop-key
invariant-loop-key l = (of : IsMemo l.memo) → l.lists ≡ key_lists (columns_at l.book (meanings_in l.memo of) l.g.0) (take l.key-index l.keys)
