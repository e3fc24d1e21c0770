use Rattle.std.proofs.lemmas.Result.{err_from_is_err_and}
use Rattle.pdw_plan.proofs.WalkNodes.{free-few, free-walked, moved-few, moved-walked, next-is, next-room, op-fault, op-few, op-walked}
use Rattle.pdw_plan.proofs.walk.+walk.Goals as goal

pub walk-returns-in_err-below-in-Op : goal.walk-returns-in_err-below-in-Op
walk-returns-in_err-below-in-Op t c =
    let p = err_from_is_err_and c.from_residual.result c.from_residual.ensures.1 in
    rw (p.1, p.2) (op-fault c.args.groups.now c.args.before c.args.plan.now c.in-Op.group c.in-Op.prop c.in-Op.children c.in-Op.is c.as_slice.result.now c.as_slice.ensures _ c.in_err-below-in-Op.ensures)

pub walk-passed-requires-in-Op : goal.walk-passed-requires-in-Op
walk-passed-requires-in-Op t c =
    op-few c.args.groups.now c.args.before c.args.plan.now c.in-Op.group c.in-Op.prop c.in-Op.children c.in-Op.is c.as_slice.result.now c.as_slice.ensures c.in_ok-below-in-Op.below c.in_ok-below-in-Op.ensures c.requires

pub walk-passed-requires-in-Moved : goal.walk-passed-requires-in-Moved
walk-passed-requires-in-Moved t c =
    moved-few c.args.groups.now c.args.before c.args.plan.now c.in-Moved.child c.get.result.now c.get.ensures c.in_ok-below-in-Moved.below c.in_ok-below-in-Moved.ensures c.in-Moved.mv c.in-Moved.is c.requires

pub walk-passed-requires-in-Free : goal.walk-passed-requires-in-Free
walk-passed-requires-in-Free t c =
    free-few c.args.groups.now c.args.before c.args.plan.now c.in-Free.child c.get-in-Free.result.now c.get-in-Free.ensures c.in_ok-below-in-Free.below c.in_ok-below-in-Free.ensures c.in-Free.to c.in-Free.is c.requires

pub walk-returns-in_ok-below-in-Op : goal.walk-returns-in_ok-below-in-Op
walk-returns-in_ok-below-in-Op t c =
    op-walked c.args.groups.now c.args.before c.args.plan.now c.in-Op.group c.in-Op.prop c.in-Op.children c.in-Op.is c.as_slice.result.now c.as_slice.ensures c.in_ok-below-in-Op.below c.in_ok-below-in-Op.ensures
    c.is_operated_at-is_way.result c.is_operated_at-is_way.ensures c.passed-in-Op.result c.passed-in-Op.ensures

pub walk-returns-in_ok-below-in-Moved : goal.walk-returns-in_ok-below-in-Moved
walk-returns-in_ok-below-in-Moved t c =
    moved-walked c.args.groups.now c.args.before c.args.plan.now c.in-Moved.child c.get.result.now c.get.ensures c.in_ok-below-in-Moved.below c.in_ok-below-in-Moved.ensures c.in-Moved.mv c.in-Moved.is
    c.to.result c.to.ensures c.is_moved_at.result c.is_moved_at.ensures c.passed-in-Moved.result c.passed-in-Moved.ensures

pub walk-returns-in_ok-below-in-Free : goal.walk-returns-in_ok-below-in-Free
walk-returns-in_ok-below-in-Free t c =
    free-walked c.args.groups.now c.args.before c.args.plan.now c.in-Free.child c.get-in-Free.result.now c.get-in-Free.ensures c.in_ok-below-in-Free.below c.in_ok-below-in-Free.ensures c.in-Free.to c.in-Free.is
    c.is_freed_at.result c.is_freed_at.ensures c.passed-in-Free.result c.passed-in-Free.ensures

pub walk_all-loop-plan-preserved : goal.walk_all-loop-plan-preserved
walk_all-loop-plan-preserved t c = record {
  is =
      next-is c.args.groups.now c.args.plans.now c.loop-plan.plan-index c.plan-item.result c.loop-plan-test.true c.plan-item.is c.loop-plan.below c.in_ok-walked.walked c.in_ok-walked.ensures c.with.result c.with.ensures _
      c.loop-plan.invariant.is;
  room = next-room c.args.groups.now c.args.plans.now c.loop-plan.plan-index c.plan-item.result c.loop-plan-test.true c.plan-item.is c.loop-plan.below c.in_ok-walked.walked c.in_ok-walked.ensures c.loop-plan.invariant.room;
}
