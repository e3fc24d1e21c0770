use Rattle.std.proofs.Common.{◌++◌, ℕ, List, ap, ◌∙◌}
use Rattle.pdw_answer.specs.declared.plan_text.PlanLine.{PlanLine}
use Rattle.pdw_answer.specs.declared.plan_text.PlanText.{PlanText}
use Rattle.pdw_explain.specs.Lines.{explained_node, flows_in}
use Rattle.pdw_plan.specs.Cost.{costs_in}
use Rattle.pdw_ways.specs.Shape.{shape_of}
use Rattle.pdw_explain.proofs.plan_text.explain.Goals as goal

pub returns : goal.returns
returns c = λ is.
    let memo = c.args.p.now.memo.now in
    let book = c.args.p.now.book.now in
    let n = c.args.p.now.n in
    let constants = c.args.p.now.constants.now in
    let text : ℕ → List PlanLine → PlanText = λ cost lines. record { cost = cost; lines = lines } in
    let own : List PlanLine = (explained_node memo.groups (flows_in memo is book n constants) c.args.plan.now).lines 0 in
    ap (λ (cost : ℕ). text cost c.from_vec.result) (c.cost_of-cost.ensures is)
    ∙ ap (λ (lines : List PlanLine). text (shape_of memo.groups (costs_in memo is book n constants) c.args.plan.now).cost lines)
    (c.from_vec.ensures ∙ c.in_ok-push_plan.ensures is ∙ ap (λ (old : List PlanLine). old ++ own) c.new-lines.ensures.items)
