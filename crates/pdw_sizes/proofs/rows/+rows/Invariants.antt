use Rattle.std.proofs.Common.{◌≡◌, ◌+◌, ◌*◌, take}
use Rattle.pdw_groups.specs.Level.{set_of}
use Rattle.pdw_memo.specs.Laws.{meanings_in}
use Rattle.pdw_memo.specs.Memo.{IsMemo}
use Rattle.pdw_parts.specs.Part.{chosen}
use Rattle.pdw_sizes.specs.Numbered.{set_rows}
use Rattle.pdw_sizes.proofs.rows.+rows.Given as goal

abbrev pub invariant-set_rows-loop-place : goal.invariant-set_rows-loop-place
invariant-set_rows-loop-place l = (of : IsMemo l.memo) → l.rows ≡ set_rows l.book (meanings_in l.memo of) l.n (chosen (set_of l.leaves) (take l.place l.all))

-- groups by their numbers, and at each the calls in their order
abbrev pub decreases-rows_at : goal.decreases-rows_at
decreases-rows_at l = 8 * l.g.0 + 2

abbrev pub decreases-set_rows : goal.decreases-set_rows
decreases-set_rows l = 8 * l.g.0 + 1

abbrev pub decreases-made_rows : goal.decreases-made_rows
decreases-made_rows l = 8 * l.g.0 + 1

abbrev pub decreases-rows_times : goal.decreases-rows_times
decreases-rows_times l = 8 * l.g.0
