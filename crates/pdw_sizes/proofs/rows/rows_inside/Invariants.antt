use Rattle.std.proofs.Common.{◌≡◌, filter, take}
use Rattle.pdw_memo.specs.Laws.{meanings_in}
use Rattle.pdw_memo.specs.Memo.{IsMemo}
use Rattle.pdw_parts.specs.Part.{is_inside}
use Rattle.pdw_sizes.specs.Estimate.{rows_left}
use Rattle.pdw_sizes.specs.Numbered.{columns_at}
use Rattle.pdw_sizes.proofs.rows.rows_inside.Given as goal

abbrev pub invariant-loop-conjunct : goal.invariant-loop-conjunct
invariant-loop-conjunct l = (of : IsMemo l.memo) → l.left ≡ rows_left (columns_at l.book (meanings_in l.memo of) l.g.0) l.rows (filter (is_inside l.schema) (take l.conjunct-index l.conds))
