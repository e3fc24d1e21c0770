use Rattle.std.proofs.Common.{◌++◌, List, map, ap, sym, ◌∙◌, arith}
use Rattle.std.proofs.lemmas.Result.{on_ok_weaker}
use Rattle.pdw_explain.proofs.LineNodes.{free-lines, last-lines, makes-shape, moved-lines, next-lines, op-lines, rest-less}
use Rattle.pdw_explain.specs.Lines.{flows_in, operator_lines}
use Rattle.pdw_explain.specs.Makes.{makes}
use Rattle.pdw_memo.specs.Memo.{IsMemo}
use Rattle.pdw_plan.proofs.CostFolds.{moved-there, op-less, op-ways, rest-ways}
use Rattle.pdw_plan.specs.Given.{expr_over}
use Rattle.pdw_plan.specs.Walk.{no_costs}
use Rattle.pdw_ways.specs.declared.made.Made.{Made}
use Rattle.pdw_ways.specs.declared.plan.Plan.{Plan}
use Rattle.pdw_explain.proofs.lines.+lines.Goals as goal

pub push_plan-push_plans-requires : goal.push_plan-push_plans-requires
push_plan-push_plans-requires t c =
    let groups = c.args.p.now.memo.now.groups in
    let less = op-less groups c.args.plan.now c.in-Op.group c.in-Op.prop c.in-Op.children c.in-Op.is c.as_slice-in-Op.result.now c.as_slice-in-Op.ensures in
    let few = c.requires.few in (
      omega (arith, less, c.decreases),
      (omega (arith, less, few), (c.requires.constants, op-ways groups c.args.plan.now c.in-Op.group c.in-Op.prop c.in-Op.children c.in-Op.is c.as_slice-in-Op.result.now c.as_slice-in-Op.ensures c.requires.ways)),
    )

pub push_plan-move_line-requires-clause-group : goal.push_plan-move_line-requires-clause-group
push_plan-move_line-requires-clause-group t c =
    let groups = c.args.p.now.memo.now.groups in
    moved-there groups c.args.plan.now c.in-Moved.mv c.in-Moved.child c.in-Moved.is c.get.result.now c.get.ensures c.requires.ways c.made_by.result.group
    (ap (λ (made : Made). made.group) (c.made_by.ensures ∙ makes-shape groups no_costs c.get.result.now))

pub push_plan-returns-in_ok-push_node-in-Op : goal.push_plan-returns-in_ok-push_node-in-Op
push_plan-returns-in_ok-push_node-in-Op t c =
    let memo = c.args.p.now.memo.now in
    on_ok_weaker c.push_plans.result
    (λ second. λ (is : IsMemo memo).
    op-lines memo.groups (flows_in memo is c.args.p.now.book.now c.args.p.now.n c.args.p.now.constants.now) c.args.plan.now c.args.depth c.args.lines.now.items c.push_plans.new.lines.items c.push_node.new.lines.items
    c.in-Op.group c.in-Op.prop c.in-Op.children c.in-Op.is c.as_slice-in-Op.result.now c.as_slice-in-Op.ensures
    (c.in_ok-push_node-in-Op.ensures ∙ ap (λ (plans : List Plan). c.args.lines.now.items ++ operator_lines c.args.depth (record { group = c.in-Op.group; prop = c.in-Op.prop }) (expr_over memo.groups c.in-Op.group (map makes plans))) (c.as_slice.ensures ∙ sym c.as_slice-in-Op.ensures)) (second is))
    c.push_plans.ensures

pub push_plan-returns-in_ok-push-in-Moved : goal.push_plan-returns-in_ok-push-in-Moved
push_plan-returns-in_ok-push-in-Moved t c =
    let memo = c.args.p.now.memo.now in
    on_ok_weaker c.push_plan.result
    (λ second. λ (is : IsMemo memo).
    moved-lines memo.groups (flows_in memo is c.args.p.now.book.now c.args.p.now.n c.args.p.now.constants.now) c.args.plan.now c.args.depth c.args.lines.now.items c.push_plan.new.lines.items c.push.new.self.items
    c.in-Moved.mv c.in-Moved.child c.in-Moved.is c.get-in-Moved.result.now c.get-in-Moved.ensures c.made_by.result (c.made_by.ensures ∙ ap makes (c.get.ensures ∙ sym c.get-in-Moved.ensures))
    c.move_line.result (c.move_line.ensures is) c.in_ok-push-in-Moved.ensures.items (second is))
    c.push_plan.ensures

pub push_plan-returns-in_ok-push-in-Free : goal.push_plan-returns-in_ok-push-in-Free
push_plan-returns-in_ok-push-in-Free t c =
    let memo = c.args.p.now.memo.now in
    on_ok_weaker c.push_plan-in-Free.result
    (λ second. λ (is : IsMemo memo).
    free-lines memo.groups (flows_in memo is c.args.p.now.book.now c.args.p.now.n c.args.p.now.constants.now) c.args.plan.now c.args.depth c.args.lines.now.items c.push_plan-in-Free.new.lines.items c.push-in-Free.new.self.items
    c.in-Free.to c.in-Free.child c.in-Free.is c.get-in-Free-2.result.now c.get-in-Free-2.ensures c.made_by-in-Free.result (c.made_by-in-Free.ensures ∙ ap makes (c.get-in-Free.ensures ∙ sym c.get-in-Free-2.ensures))
    c.free_line.result c.free_line.ensures c.in_ok-push-in-Free.ensures.items (second is))
    c.push_plan-in-Free.ensures

pub push_plans-loop-plan-preserved : goal.push_plans-loop-plan-preserved
push_plans-loop-plan-preserved t c =
    let memo = c.args.p.now.memo.now in
    let plans = c.args.plans.now in
    let i = c.loop-plan.plan-index in
    let p = c.plan-item.result in
    record {
      lines = λ is.
          next-lines memo.groups (flows_in memo is c.args.p.now.book.now c.args.p.now.n c.args.p.now.constants.now) plans i p c.loop-plan-test.true c.plan-item.is c.args.depth c.loop-plan.lines.items c.push_plan.new.lines.items _
          (c.loop-plan.invariant.lines is) (c.in_ok-push_plan.ensures is);
      few = rest-less plans i p c.loop-plan-test.true c.plan-item.is _ c.loop-plan.invariant.few;
      ways = rest-ways memo.groups plans i p c.loop-plan-test.true c.plan-item.is c.loop-plan.invariant.ways;
    }

pub push_plans-returns : goal.push_plans-returns
push_plans-returns t c = λ is.
    let memo = c.args.p.now.memo.now in
    last-lines memo.groups (flows_in memo is c.args.p.now.book.now c.args.p.now.n c.args.p.now.constants.now) c.args.plans.now c.loop-plan.plan-index c.loop-plan-test.false c.args.depth c.loop-plan.lines.items _
    (c.loop-plan.invariant.lines is)
