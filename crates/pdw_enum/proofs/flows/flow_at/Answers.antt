use Rattle.pdw_enum.proofs.FlowCosts.{flow-at}
use Rattle.pdw_enum.proofs.flows.flow_at.Goals as goal

pub returns : goal.returns
returns c = λ is. flow-at c.args.p.now.memo.now is c.args.p.now.book.now c.args.p.now.n c.args.group.0 c.size_of-size.result (c.size_of-size.ensures is)
