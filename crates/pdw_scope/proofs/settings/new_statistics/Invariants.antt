use Rattle.std.proofs.Common.{[]}
use Rattle.pdw_walk.specs.Statements.{new_statistic}
use Rattle.pdw_walk.specs.Walk.{beginning, over}
use Rattle.pdw_resolve.proofs.Turns.{Left}
use Rattle.pdw_scope.proofs.settings.new_statistics.Given as goal

abbrev pub invariant-loop-statistic : goal.invariant-loop-statistic
invariant-loop-statistic l = Left (new_statistic l.columns) (over (new_statistic l.fn.columns) [] l.fn.statistics beginning) l.statistics l.statistic-index l.found beginning
