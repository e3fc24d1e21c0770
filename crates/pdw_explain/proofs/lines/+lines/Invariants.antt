use Rattle.std.proofs.Common.{◌≡◌, ◌+◌, ◌*◌, ◌++◌, ◌≤◌, None, map, sum, drop}
use Rattle.std.specs.List.{AllByRecursion}
use Rattle.pdw_explain.specs.Lines.{explained_node, flows_in, lines_in}
use Rattle.pdw_memo.specs.Memo.{IsMemo}
use Rattle.pdw_plan.specs.Count.{node_count}
use Rattle.pdw_plan.specs.Walk.{no_costs}
use Rattle.pdw_ways.specs.Shape.{shape_of}
use Rattle.pdw_ways.specs.declared.plan.Plan.{Plan}
use Rattle.pdw_explain.proofs.lines.+lines.Given as goal

-- the lines so far, and then those of the plans that are left
abbrev pub invariant-push_plans-loop-plan : goal.invariant-push_plans-loop-plan
invariant-push_plans-loop-plan l = record {
  lines : (is : IsMemo l.p.memo.now)
      → l.lines.items ++ lines_in l.depth (map (explained_node l.p.memo.now.groups (flows_in l.p.memo.now is l.p.book.now l.p.n l.p.constants.now)) (drop l.plan-index l.plans))
      ≡ l.fn.lines.items ++ lines_in l.depth (map (explained_node l.p.memo.now.groups (flows_in l.p.memo.now is l.p.book.now l.p.n l.p.constants.now)) l.plans);
  few : sum (map node_count (drop l.plan-index l.plans)) ≤ sum (map node_count l.plans);
  ways : AllByRecursion (λ (plan : Plan). (shape_of l.p.memo.now.groups no_costs plan).fault ≡ None) (drop l.plan-index l.plans);
}

-- plans by their nodes, and children by the nodes of all
abbrev pub decreases-push_plan : goal.decreases-push_plan
decreases-push_plan l = 2 * node_count l.plan.now

abbrev pub decreases-push_plans : goal.decreases-push_plans
decreases-push_plans l = 2 * sum (map node_count l.plans.now) + 1
