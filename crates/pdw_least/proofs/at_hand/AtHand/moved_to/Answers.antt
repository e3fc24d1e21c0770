use Rattle.std.proofs.Common.{sym, ap, ◌∙◌}
use Rattle.pdw_ways.specs.Costing.{adds_by}
use Rattle.pdw_least.specs.Premises.{costs_of}
use Rattle.pdw_least.proofs.at_hand.AtHand.moved_to.Goals as goal

pub returns : goal.returns
returns c =
    let reckoning = c.at-reckoning in
    c.inner_offer.ensures (costs_of c.args.self.now.costing.now) c.args.self.now.number (λ mv.
    sym (ap (λ n. adds_by n reckoning.result.constants.now reckoning.result.flow mv) reckoning.ensures.nodes
    ∙ ap (λ constants. adds_by c.args.self.now.costing.now.n constants reckoning.result.flow mv) reckoning.ensures.constants
    ∙ ap (λ flow. adds_by c.args.self.now.costing.now.n c.args.self.now.costing.now.constants.now flow mv) reckoning.ensures.flow))
