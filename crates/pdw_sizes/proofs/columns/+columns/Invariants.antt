use Rattle.std.proofs.Common.{◌≡◌, ◌+◌, ◌*◌, take}
use Rattle.pdw_groups.specs.Level.{set_of}
use Rattle.pdw_memo.specs.Laws.{meanings_in}
use Rattle.pdw_memo.specs.Memo.{IsMemo}
use Rattle.pdw_parts.specs.Part.{chosen}
use Rattle.pdw_sizes.specs.Numbered.{set_columns}
use Rattle.pdw_sizes.proofs.columns.+columns.Given as goal

abbrev pub invariant-set_column-loop-place : goal.invariant-set_column-loop-place
invariant-set_column-loop-place l = (of : IsMemo l.memo) → l.found ≡ set_columns l.book (meanings_in l.memo of) (chosen (set_of l.leaves) (take l.place l.all)) l.c

-- groups by their numbers, and at each the calls in their order
abbrev pub decreases-column_at : goal.decreases-column_at
decreases-column_at l = 8 * l.g.0 + 2

abbrev pub decreases-set_column : goal.decreases-set_column
decreases-set_column l = 8 * l.g.0 + 1

abbrev pub decreases-made_column : goal.decreases-made_column
decreases-made_column l = 8 * l.g.0 + 1

abbrev pub decreases-column_or : goal.decreases-column_or
decreases-column_or l = 8 * l.g.0

abbrev pub decreases-item_column : goal.decreases-item_column
decreases-item_column l = 8 * l.child.0 + 4

abbrev pub decreases-aggregate_column : goal.decreases-aggregate_column
decreases-aggregate_column l = 8 * l.child.0 + 5

abbrev pub decreases-aggregate_width : goal.decreases-aggregate_width
decreases-aggregate_width l = 8 * l.child.0 + 4

abbrev pub decreases-expression_width : goal.decreases-expression_width
decreases-expression_width l = 8 * l.child.0 + 3
