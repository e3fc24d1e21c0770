use Rattle.std.proofs.lemmas.Result.{IfOk-weaker}
use Rattle.std.specs.List.{AllByRecursion}
use Rattle.pdw_ways.specs.declared.plan.Plan.{Plan}
use Rattle.pdw_least.proofs.FewNodes.{read-few, read-within}
use Rattle.pdw_least.specs.Built.{IsReadOff}
use Rattle.pdw_least.specs.Premises.{costs_of}
use Rattle.pdw_least.specs.Runs.{HasFewNodes, IsWithinFour, runs_of}
use Rattle.pdw_least.proofs.search.Search.build.Goals as goal

pub returns-clause-steps : goal.returns-clause-steps
returns-clause-steps c =
    IfOk-weaker c.plan_of.result (λ (p : Plan). IsReadOff c.args.self.now.groups.now (costs_of c.args.self.now.costing.now) c.as_slice.result.now p c.args.made) (λ (p : Plan). AllByRecursion IsWithinFour (runs_of p))
    (λ p read. read-within c.args.self.now.groups.now (costs_of c.args.self.now.costing.now) c.as_slice.result.now c.args.made p read) c.plan_of.ensures

pub returns-clause-few : goal.returns-clause-few
returns-clause-few c =
    IfOk-weaker c.plan_of.result (λ (p : Plan). IsReadOff c.args.self.now.groups.now (costs_of c.args.self.now.costing.now) c.as_slice.result.now p c.args.made) (λ (p : Plan). HasFewNodes c.args.self.now.groups.now (costs_of c.args.self.now.costing.now) p)
    (λ p read. read-few c.args.self.now.groups.now (costs_of c.args.self.now.costing.now) c.as_slice.result.now c.args.made p read) c.plan_of.ensures
