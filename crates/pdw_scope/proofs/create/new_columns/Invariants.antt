use Rattle.std.proofs.Common.{◌≡◌, [], take}
use Rattle.pdw_walk.specs.Statements.{new_column}
use Rattle.pdw_walk.specs.Walk.{beginning, over}
use Rattle.pdw_resolve.proofs.Turns.{Left}
use Rattle.pdw_scope.proofs.create.new_columns.Given as goal

abbrev pub invariant-loop-column : goal.invariant-loop-column
invariant-loop-column l = Left new_column (over new_column [] l.fn.columns beginning) l.columns l.column-index l.found beginning × (l.found ≡ take l.column-index l.columns)
