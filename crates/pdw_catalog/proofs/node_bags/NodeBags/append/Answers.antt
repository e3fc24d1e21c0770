use Rattle.std.proofs.Common.{◌∙◌}
use Rattle.pdw_catalog.proofs.NodeBagsLemmas.{Shortened-Extends}
use Rattle.pdw_catalog.proofs.node_bags.NodeBags.append.Goals as goal

pub returns-in-Err-clause-err : goal.returns-in-Err-clause-err
returns-in-Err-clause-err c =
    Shortened-Extends c.as_slice.result.now c.args.self.now c.add.new.self c.shorten.new.self (c.as_slice.ensures.value ∙ c.in_ok-lengths.ensures) c.in-Err.ensures.err c.shorten.ensures
