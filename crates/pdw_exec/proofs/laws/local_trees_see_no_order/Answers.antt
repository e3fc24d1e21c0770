use Rattle.pdw_exec.proofs.OrderLaws.{same-temporaries, same-trees}
use Rattle.pdw_exec.proofs.laws.local_trees_see_no_order.Goals as goal

pub returns : goal.returns
returns c = record { rows = same-trees; tables = λ temps others same schemas node. same-temporaries node temps others same schemas }
