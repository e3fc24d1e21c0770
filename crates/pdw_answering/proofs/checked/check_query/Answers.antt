use Rattle.std.proofs.lemmas.Result.{IfOk-weaker}
use Rattle.pdw_answer.specs.declared.answer.PlanVerdict.{PlanVerdict}
use Rattle.pdw_answering.proofs.Planned.{memo-checks}
use Rattle.pdw_answering.specs.Basis.{basis_in}
use Rattle.pdw_answering.specs.Checks.{ChecksBy}
use Rattle.pdw_bind.specs.Bind.{bound}
use Rattle.pdw_memo.specs.Memo.{IsMemo}
use Rattle.pdw_plan.specs.Cost.{costs_in}
use Rattle.pdw_plan_files.specs.Verdict.{IsVerdictOn}
use Rattle.pdw_answering.proofs.checked.check_query.Goals as goal

pub returns : goal.returns
returns c =
    let on = c.args.ground.now in
    let tree = bound c.args.query.now in
    let content = c.args.content.now in
    let memo = c.in_ok-memo.memo in
    IfOk-weaker c.check_file-verdict.result
    (λ (verdict : PlanVerdict). (is : IsMemo memo) → IsVerdictOn memo.groups (costs_in memo is on.book.now on.n on.constants.now) content verdict)
    (λ (verdict : PlanVerdict). ChecksBy (basis_in on.catalog.now on.book.now on.n on.budget on.constants.now) tree content verdict)
    (λ verdict tells. memo-checks on.catalog.now on.book.now on.n on.budget on.constants.now tree content memo verdict c.in_ok-memo.ensures c.requires.plannable tells)
    c.check_file-verdict.ensures
