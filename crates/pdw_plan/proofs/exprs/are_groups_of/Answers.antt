use Rattle.pdw_plan.proofs.GroupsOf.{lengths-differ}
use Rattle.pdw_plan.proofs.exprs.are_groups_of.Goals as goal

pub returns-then-below-children : goal.returns-then-below-children
returns-then-below-children c = lengths-differ c.args.below.now c.args.children.now c.if-below-children.true
