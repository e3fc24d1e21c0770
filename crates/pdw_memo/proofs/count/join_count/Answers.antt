use Rattle.std.proofs.Common.{◌≤◌, arith, length}
use Rattle.pdw_groups.specs.declared.group.Group.{Group}
use Rattle.pdw_memo.proofs.CountSteps.{all-at, count-next, few-joins}
use Rattle.pdw_memo.proofs.count.join_count.Goals as goal

pub overflow_add-joins : goal.overflow_add-joins
overflow_add-joins c =
    let few = few-joins c.args.block c.group-item.result (all-at (λ (group : Group). length group.exprs ≤ 1024) c.args.groups.now c.loop-group.group-index c.group-item.result c.requires.each c.loop-group-test.true c.group-item.is) in
    let added = c.joins_in-joins.ensures in
    omega (arith, few, added, c.loop-group.invariant.most, c.loop-group-test.true, c.requires.few)

pub loop-group-preserved : goal.loop-group-preserved
loop-group-preserved c =
    let few = few-joins c.args.block c.group-item.result (all-at (λ (group : Group). length group.exprs ≤ 1024) c.args.groups.now c.loop-group.group-index c.group-item.result c.requires.each c.loop-group-test.true c.group-item.is) in
    let added = c.joins_in-joins.ensures in
    record {
      count = count-next c.args.block c.args.groups.now c.loop-group.group-index c.group-item.result c.loop-group-test.true c.group-item.is c.loop-group.joins c.joins_in-joins.result c.loop-group.invariant.count added;
      most = omega (arith, few, added, c.loop-group.invariant.most);
    }
