use Rattle.std.proofs.Common.{◌≡◌}
use Rattle.std.proofs.lemmas.Result.{IfOk-weaker}
use Rattle.pdw_algebra.specs.declared.tree.Tree.{Tree}
use Rattle.pdw_answer.specs.declared.plan_text.PlanText.{PlanText}
use Rattle.pdw_answering.proofs.Planned.{planned-explains, short-few}
use Rattle.pdw_answering.specs.Basis.{basis_in}
use Rattle.pdw_answering.specs.Explains.{ExplainsBy}
use Rattle.pdw_explain.specs.Lines.{explained}
use Rattle.pdw_memo.specs.Memo.{IsMemo, IsPlannable}
use Rattle.pdw_plan.specs.Walk.{no_costs}
use Rattle.pdw_planner.specs.Planned.{IsPlanned}
use Rattle.pdw_answering.proofs.explained.explain_planned.Goals as goal

pub explain-requires : goal.explain-requires
explain-requires c =
    let is = c.requires.planned.1 in
    record {
      few = short-few c.args.planned.now.plan is.short;
      constants = c.requires.constants;
      well_formed = is.query no_costs;
    }

pub returns : goal.returns
returns c =
    let on = c.args.ground.now in
    let planned = c.args.planned.now in
    IfOk-weaker c.explain.result
    (λ (text : PlanText). (is : IsMemo planned.memo) → text ≡ explained planned.memo is on.book.now on.n on.constants.now planned.plan)
    (λ (text : PlanText). (tree : Tree) → IsPlannable on.catalog.now tree → IsPlanned on.catalog.now on.book.now on.n on.budget on.constants.now tree planned → ExplainsBy (basis_in on.catalog.now on.book.now on.n on.budget on.constants.now) tree planned.plan text)
    (λ text tells tree plannable is. planned-explains on.catalog.now on.book.now on.n on.budget on.constants.now tree planned text tells plannable is)
    c.explain.ensures
