use Rattle.pdw_plan.proofs.CoverLaws.{free-covers, line-covers}
use Rattle.pdw_plan.proofs.laws.operators_find_their_children.Goals as goal

pub returns-clause-rules : goal.returns-clause-rules
returns-clause-rules c = line-covers

pub returns-clause-free : goal.returns-clause-free
returns-clause-free c = free-covers
