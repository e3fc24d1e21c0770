use Rattle.std.proofs.lemmas.Result.{err_from_is_err_and}
use Rattle.pdw_plan.proofs.Costless.{query-fault, walked-other, walked-root, walked-some}
use Rattle.pdw_plan.proofs.query.well_formed_over.Goals as goal

pub returns-in_err-walked : goal.returns-in_err-walked
returns-in_err-walked c = λ costs.
    let p = err_from_is_err_and c.from_residual.result c.from_residual.ensures.1 in
    rw (p.1, p.2) (query-fault c.args.groups.now costs c.args.plan.now _ c.in_err-walked.ensures)

pub returns-then-walked-groups : goal.returns-then-walked-groups
returns-then-walked-groups c = walked-root c.args.groups.now c.args.plan.now c.in_ok-walked.walked c.in_ok-walked.ensures c.if-walked-groups.true

pub overflow_sub-last : goal.overflow_sub-last
overflow_sub-last c = walked-some c.args.groups.now c.args.plan.now c.in_ok-walked.walked c.in_ok-walked.ensures

pub returns : goal.returns
returns c = walked-other c.args.groups.now c.args.plan.now c.in_ok-walked.walked c.in_ok-walked.ensures c.if-walked-groups.false
