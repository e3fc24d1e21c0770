use Rattle.pdw_bound.proofs.Plannable.{bound-plannable}
use Rattle.pdw_bound.proofs.laws.a_bound_tree_is_plannable.Goals as goal

pub returns : goal.returns
returns c = bound-plannable
