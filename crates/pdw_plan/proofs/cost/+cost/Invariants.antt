use Rattle.std.proofs.Common.{◌≡◌, ◌+◌, ◌*◌, ◌≤◌, ◌^◌, None, map, sum, drop}
use Rattle.std.specs.List.{AllByRecursion}
use Rattle.pdw_memo.specs.Memo.{IsMemo}
use Rattle.pdw_plan.specs.Cost.{costs_in}
use Rattle.pdw_plan.specs.Count.{node_count}
use Rattle.pdw_plan.specs.Walk.{no_costs}
use Rattle.pdw_ways.specs.Shape.{cost_in, shape_of}
use Rattle.pdw_ways.specs.declared.plan.Plan.{Plan}
use Rattle.pdw_plan.proofs.cost.+cost.Given as goal

abbrev pub invariant-cost_all-loop-plan : goal.invariant-cost_all-loop-plan
invariant-cost_all-loop-plan l = record {
  cost : (is : IsMemo l.p.memo.now) → l.cost + cost_in (map (shape_of l.p.memo.now.groups (costs_in l.p.memo.now is l.p.book.now l.p.n l.p.constants.now)) (drop l.plan-index l.plans))
      ≡ cost_in (map (shape_of l.p.memo.now.groups (costs_in l.p.memo.now is l.p.book.now l.p.n l.p.constants.now)) l.plans);
  most : l.cost + sum (map node_count (drop l.plan-index l.plans)) * 2 ^ 96 ≤ sum (map node_count l.plans) * 2 ^ 96;
  ways : AllByRecursion (λ (plan : Plan). (shape_of l.p.memo.now.groups no_costs plan).fault ≡ None) (drop l.plan-index l.plans);
}

-- plans by their nodes, and children by the nodes of all
abbrev pub decreases-costed : goal.decreases-costed
decreases-costed l = 2 * node_count l.plan.now

abbrev pub decreases-cost_all : goal.decreases-cost_all
decreases-cost_all l = 2 * sum (map node_count l.plans.now) + 1
