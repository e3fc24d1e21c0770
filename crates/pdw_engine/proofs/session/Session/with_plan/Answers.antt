use Rattle.std.proofs.Common.{◌≡◌, subst, sym, ap}
use Rattle.std.proofs.lemmas.Result.{IfOk-weaker}
use Rattle.pdw_engine.specs.Ready.{HasPlan, Ready}
use Rattle.pdw_engine.proofs.session.Session.with_plan.Goals as goal

pub returns-in-Ok-clause-work : goal.returns-in-Ok-clause-work
returns-in-Ok-clause-work c =
    IfOk-weaker c.with_want.result
    (λ (prepared : Ready). prepared ≡ record { work = c.args.work; planned = c.in-Ok.planned })
    (λ (prepared : Ready). prepared.work ≡ c.args.work)
    (λ prepared is. ap (λ (ready : Ready). ready.work) is)
    c.with_want.ensures

pub returns-in-Ok-clause-planned : goal.returns-in-Ok-clause-planned
returns-in-Ok-clause-planned c =
    IfOk-weaker c.with_want.result
    (λ (prepared : Ready). prepared ≡ record { work = c.args.work; planned = c.in-Ok.planned })
    (λ (prepared : Ready). HasPlan c.args.self.now prepared)
    (λ prepared is. subst (HasPlan c.args.self.now) (sym is) c.in-Ok.ensures)
    c.with_want.ensures
