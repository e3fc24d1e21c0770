use Rattle.pdw_cert.proofs.Reckoned.{reckoned}
use Rattle.pdw_plan.proofs.CostBounds.{rows-in}
use Rattle.pdw_cert.proofs.high.reckoning_of.Goals as goal

pub returns-clause-agrees : goal.returns-clause-agrees
returns-clause-agrees c = λ is. reckoned c.args.p.now.memo.now is c.args.p.now.book.now c.args.p.now.n c.args.p.now.constants.now c.args.number c.size_of-size.result (c.size_of-size.ensures is)

pub returns-clause-rows : goal.returns-clause-rows
returns-clause-rows c =
    rows-in c.args.p.now.memo.now c.groups-groups.ensures.memo c.args.p.now.book.now c.keeps_ranges.ensures c.args.p.now.n c.get-nodes.ensures.most c.args.number c.size_of-size.result (c.size_of-size.ensures c.groups-groups.ensures.memo)
