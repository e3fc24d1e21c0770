use Rattle.pdw_plan.proofs.CostBounds.{cost-fits, cost-is, rows-in}
use Rattle.pdw_plan.proofs.cost.cost_at.Goals as goal

pub move_cost-requires-clause-rows : goal.move_cost-requires-clause-rows
move_cost-requires-clause-rows c =
    rows-in c.args.p.now.memo.now c.groups-groups.ensures.memo c.args.p.now.book.now c.keeps_ranges.ensures c.args.p.now.n c.get-nodes.ensures.most c.args.group c.size_of-size.result (c.size_of-size.ensures c.groups-groups.ensures.memo)

pub returns-clause-cost : goal.returns-clause-cost
returns-clause-cost c = λ is.
    cost-is c.args.p.now.memo.now is c.args.p.now.book.now c.keeps_ranges.ensures c.args.p.now.n c.get-nodes.ensures.most c.args.group c.size_of-size.result (c.size_of-size.ensures is)
    c.args.p.now.constants.now c.args.mv.now c.move_cost.result c.move_cost.ensures

pub returns-clause-most : goal.returns-clause-most
returns-clause-most c =
    cost-fits c.args.p.now.memo.now c.groups-groups.ensures.memo c.args.p.now.book.now c.keeps_ranges.ensures c.args.p.now.n c.get-nodes.ensures.most c.args.group c.size_of-size.result (c.size_of-size.ensures c.groups-groups.ensures.memo)
    c.args.p.now.constants.now c.args.mv.now c.move_cost.result c.get-nodes.ensures.least c.requires.constants c.move_cost.ensures
