use Rattle.std.proofs.Common.{length}
use Rattle.pdw_least.proofs.search.Search.+plan_of.Given as goal

-- children are read off what stands before
abbrev pub decreases-plan_of : goal.decreases-plan_of
decreases-plan_of l = length l.log.now
