use Rattle.std.proofs.Common.{◌≡◌, None, Some, ap, ◌∙◌}
use Rattle.pdw_answer.specs.Words.{word_of_move}
use Rattle.pdw_answer.specs.declared.plan_text.MoveFlow.{MoveFlow}
use Rattle.pdw_answer.specs.declared.plan_text.PlanLine.{PlanLine}
use Rattle.pdw_answer.specs.declared.plan_text.PlanWord.{PlanWord}
use Rattle.pdw_move.specs.Move.{property_after}
use Rattle.pdw_move.specs.declared.kinds.Prop.{Prop}
use Rattle.pdw_explain.proofs.moved.move_line.Goals as goal

pub returns : goal.returns
returns c = λ is.
    let line : PlanWord → Prop → MoveFlow → PlanLine = λ word prop flow. record { depth = c.args.depth; word = word; group = c.args.group.0; alias = None; prop = prop; flow = Some flow } in
    ap (λ (word : PlanWord). line word c.to.result c.flow_of.result) c.word_of_move.ensures
    ∙ ap (λ (prop : Prop). line (word_of_move c.args.mv) prop c.flow_of.result) c.to.ensures
    ∙ ap (λ (flow : MoveFlow). line (word_of_move c.args.mv) (property_after c.args.mv) flow) (c.flow_of.ensures is)
