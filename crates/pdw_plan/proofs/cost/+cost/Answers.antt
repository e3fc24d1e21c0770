use Rattle.std.proofs.Common.{map, sum, refl, arith}
use Rattle.pdw_plan.proofs.CostFolds.{free-cost, last-cost, moved-cost, moved-there, next-cost, next-most, op-cost, op-fewer, op-less, op-ways, rest-ways}
use Rattle.pdw_plan.specs.Cost.{costs_in}
use Rattle.pdw_plan.specs.Count.{node_count}
use Rattle.pdw_plan.proofs.cost.+cost.Goals as goal

pub costed-cost_all-requires : goal.costed-cost_all-requires
costed-cost_all-requires t c =
    let less = op-less c.args.p.now.memo.now.groups c.args.plan.now c.in-Op.group c.in-Op.prop c.in-Op.children c.in-Op.is c.as_slice.result.now c.as_slice.ensures in (
      omega (arith, less, c.decreases),
      (
        op-fewer c.args.p.now.memo.now.groups c.args.plan.now c.in-Op.group c.in-Op.prop c.in-Op.children c.in-Op.is c.as_slice.result.now c.as_slice.ensures c.requires.few,
        (c.requires.constants, op-ways c.args.p.now.memo.now.groups c.args.plan.now c.in-Op.group c.in-Op.prop c.in-Op.children c.in-Op.is c.as_slice.result.now c.as_slice.ensures c.requires.ways),
      ),
    )

pub costed-cost_at-added-requires-clause-group : goal.costed-cost_at-added-requires-clause-group
costed-cost_at-added-requires-clause-group t c =
    moved-there c.args.p.now.memo.now.groups c.args.plan.now c.in-Moved.mv c.in-Moved.child c.in-Moved.is c.get.result.now c.get.ensures c.requires.ways c.costed-below.result.group c.costed-below.ensures.group

pub costed-returns-in-Op-clause-cost : goal.costed-returns-in-Op-clause-cost
costed-returns-in-Op-clause-cost t c = λ is.
    op-cost c.args.p.now.memo.now.groups c.args.plan.now c.in-Op.group c.in-Op.prop c.in-Op.children c.in-Op.is c.as_slice.result.now c.as_slice.ensures
    (costs_in c.args.p.now.memo.now is c.args.p.now.book.now c.args.p.now.n c.args.p.now.constants.now) c.cost_all.result (c.cost_all.ensures.cost is)

pub costed-returns-in-Moved-clause-cost : goal.costed-returns-in-Moved-clause-cost
costed-returns-in-Moved-clause-cost t c = λ is.
    moved-cost c.args.p.now.memo.now.groups c.args.plan.now c.in-Moved.mv c.in-Moved.child c.in-Moved.is c.get.result.now c.get.ensures
    (costs_in c.args.p.now.memo.now is c.args.p.now.book.now c.args.p.now.n c.args.p.now.constants.now) c.costed-below.result.cost c.cost_at-added.result _ c.costed-below.result.group
    (c.costed-below.ensures.cost is) c.costed-below.ensures.group (c.cost_at-added.ensures.cost is) refl

pub costed-returns-in-Free-clause-cost : goal.costed-returns-in-Free-clause-cost
costed-returns-in-Free-clause-cost t c = λ is.
    free-cost c.args.p.now.memo.now.groups c.args.plan.now c.in-Free.to c.in-Free.child c.in-Free.is c.get-in-Free.result.now c.get-in-Free.ensures
    (costs_in c.args.p.now.memo.now is c.args.p.now.book.now c.args.p.now.n c.args.p.now.constants.now) c.costed.result.cost (c.costed.ensures.cost is)

pub cost_all-loop-plan-preserved : goal.cost_all-loop-plan-preserved
cost_all-loop-plan-preserved t c = record {
  cost = λ is.
      next-cost c.args.p.now.memo.now.groups c.args.plans.now c.loop-plan.plan-index c.plan-item.result c.loop-plan-test.true c.plan-item.is
      (costs_in c.args.p.now.memo.now is c.args.p.now.book.now c.args.p.now.n c.args.p.now.constants.now) c.loop-plan.cost c.costed-cost.result.cost _ _ (c.loop-plan.invariant.cost is) (c.costed-cost.ensures.cost is) refl;
  most =
      next-most c.args.p.now.memo.now.groups c.args.plans.now c.loop-plan.plan-index c.plan-item.result c.loop-plan-test.true c.plan-item.is
      (sum (map node_count c.args.plans.now)) c.loop-plan.cost c.loop-plan.invariant.most c.costed-cost.result.cost _ c.costed-cost.ensures.most refl;
  ways = rest-ways c.args.p.now.memo.now.groups c.args.plans.now c.loop-plan.plan-index c.plan-item.result c.loop-plan-test.true c.plan-item.is c.loop-plan.invariant.ways;
}

pub cost_all-returns-clause-cost : goal.cost_all-returns-clause-cost
cost_all-returns-clause-cost t c = λ is.
    last-cost c.args.p.now.memo.now.groups c.args.plans.now c.loop-plan.plan-index c.loop-plan-test.false
    (costs_in c.args.p.now.memo.now is c.args.p.now.book.now c.args.p.now.n c.args.p.now.constants.now) c.loop-plan.cost _ (c.loop-plan.invariant.cost is)
