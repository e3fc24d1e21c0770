use Rattle.std.proofs.Common.{subst}
use Rattle.pdw_plan.proofs.PlanLaw.{answer-gives}
use Rattle.pdw_plan.specs.Answer.{IsAnswer}
use Rattle.pdw_ways.specs.Ways.{Costs}
use Rattle.pdw_plan.proofs.query.well_formed.Goals as goal

pub returns : goal.returns
returns c =
    let answer : (costs : Costs) → IsAnswer c.args.p.now.memo.now.groups costs c.args.plan.now c.well_formed_over.result =
    λ costs. subst (λ groups. IsAnswer groups costs c.args.plan.now c.well_formed_over.result) c.groups.ensures.groups (c.well_formed_over.ensures costs) in
    record { answer = answer; law = answer-gives c.args.p.now.memo.now c.args.plan.now c.well_formed_over.result answer }
