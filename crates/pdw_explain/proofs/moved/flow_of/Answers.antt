use Rattle.std.proofs.Common.{◌≡◌, ℕ, Option, Some, sym, ap, ◌∙◌}
use Rattle.pdw_answer.specs.declared.plan_text.MoveFlow.{MoveFlow}
use Rattle.pdw_explain.specs.Lines.{with_cost}
use Rattle.pdw_plan.proofs.CostBounds.{cost-is, rows-in}
use Rattle.pdw_plan.specs.Cost.{costs_in, flow_of}
use Rattle.pdw_sizes.specs.declared.size.Size.{Size}
use Rattle.pdw_explain.proofs.moved.flow_of.Goals as goal

pub move_cost-requires-clause-rows : goal.move_cost-requires-clause-rows
move_cost-requires-clause-rows c =
    rows-in c.args.p.now.memo.now c.groups-groups.ensures.memo c.args.p.now.book.now c.keeps_ranges.ensures c.args.p.now.n c.get-nodes.ensures.most c.args.group c.size_of-size.result (c.size_of-size.ensures c.groups-groups.ensures.memo)

pub returns : goal.returns
returns c = λ is.
    let memo = c.args.p.now.memo.now in
    let book = c.args.p.now.book.now in
    let n = c.args.p.now.n in
    let constants = c.args.p.now.constants.now in
    let size = c.size_of-size.result in
    let at = c.size_of-size.ensures is in
    let cost = cost-is memo is book c.keeps_ranges.ensures n c.get-nodes.ensures.most c.args.group size at constants c.args.mv.now c.move_cost.result c.move_cost.ensures in
    ap (λ (amount : ℕ). with_cost (flow_of (Some size)) amount) cost
    ∙ ap (λ (some : Option Size). with_cost (flow_of some) (costs_in memo is book n constants c.args.group c.args.mv.now)) (sym at)
