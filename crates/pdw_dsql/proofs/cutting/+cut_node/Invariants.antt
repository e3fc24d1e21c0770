use Rattle.pdw_plan.specs.Count.{node_count}
use Rattle.pdw_dsql.proofs.cutting.+cut_node.Given as goal

abbrev pub decreases-cut_node : goal.decreases-cut_node
decreases-cut_node l = node_count l.plan.now
