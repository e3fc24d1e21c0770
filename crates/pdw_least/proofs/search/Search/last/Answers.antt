use Rattle.pdw_least.proofs.Builds.{entry-way, last-is}
use Rattle.pdw_least.specs.Premises.{costs_of}
use Rattle.pdw_least.proofs.search.Search.last.Goals as goal

pub returns : goal.returns
returns c = last-is c.args.self.now.groups.now (costs_of c.args.self.now.costing.now) c.args.log.now c.requires.log c.args.made c.in-Some.number c.in-Some.ensures c.in-Some-at.entry.now.way
    (entry-way c.args.log.now c.in-Some.number c.in-Some-at.entry.now c.in-Some.ensures.entry c.in-Some-at.ensures c.in-Some.ensures.there)
