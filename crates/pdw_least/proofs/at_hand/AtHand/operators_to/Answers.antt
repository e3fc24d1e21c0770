use Rattle.std.proofs.Common.{subst}
use Rattle.pdw_ways.specs.Bounds.{bound_in}
use Rattle.pdw_least.proofs.Passes.{local-after}
use Rattle.pdw_least.proofs.Tables.{all-small}
use Rattle.pdw_least.specs.Premises.{costs_of}
use Rattle.pdw_least.specs.States.{lowered_log, lowered_row}
use Rattle.pdw_ways.specs.Bounds.{bound_by}
use Rattle.pdw_least.proofs.Steps.{here}
use Rattle.std.proofs.Common.{◌≡◌}
use Rattle.pdw_least.proofs.at_hand.AtHand.operators_to.Goals as goal

pub local_offer-offer-requires : goal.local_offer-offer-requires
local_offer-offer-requires c = record { small = all-small c.args.self.now.groups.now c.requires.premises.light (bound_in c.args.self.now.groups.now c.args.self.now.lists.now) c.requires.within }

pub returns : goal.returns
returns c = local-after c.args.self.now.groups.now (costs_of c.args.self.now.costing.now) c.args.self.now.lists.now c.args.self.now.number c.args.self.now.group.now c.requires.there c.requires.premises.ordered c.requires.within
    c.args.row.now c.lower.new.row c.args.log.now c.lower.new.log c.args.wanted c.local_offer-offer.result (c.local_offer-offer.ensures (costs_of c.args.self.now.costing.now) c.args.self.now.number)
    (subst (λ interesting. c.lower.new.row ≡ lowered_row interesting c.args.wanted c.local_offer-offer.result c.args.row.now) c.as_slice.ensures c.in_ok-lower.ensures.row)
    (subst (λ interesting. c.lower.new.log ≡ lowered_log (here c.args.self.now.number c.args.wanted) c.local_offer-offer.result (bound_by interesting c.args.row.now c.args.wanted) c.args.log.now) c.as_slice.ensures c.in_ok-lower.ensures.log)
