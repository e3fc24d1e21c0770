use Rattle.pdw_ways.proofs.CostLemmas.{flows-small}
use Rattle.pdw_ways.proofs.costing.Costing.each_move_is_cheap.Goals as goal

pub returns : goal.returns
returns c = flows-small c.args.self.now.n c.args.self.now.constants.now c.args.self.now.flows.now c.get-count.ensures.least c.get-count.ensures.most c.requires.constants c.requires.rows
