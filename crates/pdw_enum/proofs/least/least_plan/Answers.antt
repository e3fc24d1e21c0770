use Rattle.pdw_least.specs.Premises.{costs_of}
use Rattle.pdw_enum.proofs.LeastPlans.{built-least, built-query, built-short, some-groups}
use Rattle.pdw_enum.proofs.least.least_plan.Goals as goal

pub returns-clause-query : goal.returns-clause-query
returns-clause-query c =
    built-query c.args.search.now.groups.now (costs_of c.args.search.now.costing.now) c.in_ok-table.table.lists c.in_ok-table.table.log c.in_ok-table.ensures c.in_ok-made.made c.in_ok-made.ensures c.in_ok-plan.plan c.in_ok-plan.ensures.plan
    (some-groups c.args.search.now.groups.now c.requires.rooted)

pub returns-clause-least : goal.returns-clause-least
returns-clause-least c =
    built-least c.args.search.now.groups.now (costs_of c.args.search.now.costing.now) c.in_ok-table.table.lists c.in_ok-table.table.log c.in_ok-table.ensures c.in_ok-made.made c.in_ok-made.ensures c.in_ok-plan.plan c.in_ok-plan.ensures.plan
    c.requires.premises.light (c.tight_bounds_leave_none_cheaper.ensures c.args.search.now.groups.now (costs_of c.args.search.now.costing.now) c.in_ok-table.table.lists)

pub returns-clause-short : goal.returns-clause-short
returns-clause-short c =
    built-short c.args.search.now.groups.now (costs_of c.args.search.now.costing.now) c.in_ok-table.table.lists c.in_ok-table.table.log c.in_ok-table.ensures c.in_ok-made.made c.in_ok-made.ensures c.in_ok-plan.plan c.in_ok-plan.ensures.plan
    c.requires.premises.light (c.plans_have_few_operators.ensures c.args.search.now.groups.now (costs_of c.args.search.now.costing.now) c.requires.premises.light) c.in_ok-plan.ensures.runs c.in_ok-plan.ensures.steps c.in_ok-plan.ensures.few
