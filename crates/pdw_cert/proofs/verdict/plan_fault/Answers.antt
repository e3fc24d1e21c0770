use Rattle.std.proofs.Common.{◌∙◌, refl, sym}
use Rattle.pdw_plan.specs.Cost.{costs_in}
use Rattle.pdw_plan.specs.Walk.{no_costs}
use Rattle.pdw_cert.proofs.verdict.plan_fault.Goals as goal

pub cost_of-computed-requires-clause-well_formed : goal.cost_of-computed-requires-clause-well_formed
cost_of-computed-requires-clause-well_formed c = (c.in-Ok.ensures.answer no_costs).0

pub returns-in-Err : goal.returns-in-Err
returns-in-Err c = λ is lists. c.in-Err.ensures.answer (costs_in c.args.p.now.memo.now is c.args.p.now.book.now c.args.p.now.n c.args.p.now.constants.now)

pub returns-then-computed-written : goal.returns-then-computed-written
returns-then-computed-written c = λ is lists.
    ((c.in-Ok.ensures.answer (costs_in c.args.p.now.memo.now is c.args.p.now.book.now c.args.p.now.n c.args.p.now.constants.now)).0, sym (c.cost_of-computed.ensures is) ∙ c.if-computed-written.true)

pub returns-else-computed-written : goal.returns-else-computed-written
returns-else-computed-written c = λ is lists.
    ((c.in-Ok.ensures.answer (costs_in c.args.p.now.memo.now is c.args.p.now.book.now c.args.p.now.n c.args.p.now.constants.now)).0, (refl, (sym (c.cost_of-computed.ensures is), c.if-computed-written.false)))
