use Rattle.std.proofs.Common.{◌≡◌, subst}
use Rattle.pdw_ways.specs.Bounds.{bound_by, row_bound, sum_of}
use Rattle.pdw_ways.specs.Offers.{Best, IsInnerWay}
use Rattle.pdw_least.proofs.Passes.{pass-after}
use Rattle.pdw_least.proofs.Steps.{here}
use Rattle.pdw_least.specs.Premises.{costs_of}
use Rattle.pdw_least.specs.States.{falls, lowered_log, lowered_row}
use Rattle.pdw_least.proofs.at_hand.AtHand.moves_to.Goals as goal

pub returns : goal.returns
returns c = pass-after c.args.self.now.groups.now (costs_of c.args.self.now.costing.now) c.args.self.now.lists.now c.args.self.now.number c.args.self.now.group.now c.requires.there c.each_move_is_cheap.ensures
    c.args.row.now c.lower.new.row c.args.log.now c.lower.new.log c.args.wanted c.moved_to-offer.result c.in_ok-more.more
    (subst (λ bounds. Best (IsInnerWay c.args.self.now.group.now c.args.wanted) (sum_of (costs_of c.args.self.now.costing.now) (row_bound c.args.self.now.group.now.interesting bounds) c.args.self.now.number) c.moved_to-offer.result) c.as_slice.ensures c.moved_to-offer.ensures)
    c.in_ok-more.ensures.small
    (subst (λ interesting. c.lower.new.row ≡ lowered_row interesting c.args.wanted c.moved_to-offer.result c.args.row.now) c.as_slice-2.ensures c.in_ok-more.ensures.row)
    (subst (λ interesting. c.lower.new.log ≡ lowered_log (here c.args.self.now.number c.args.wanted) c.moved_to-offer.result (bound_by interesting c.args.row.now c.args.wanted) c.args.log.now) c.as_slice-2.ensures c.in_ok-more.ensures.log)
    (subst (λ interesting. c.in_ok-more.more ≡ falls c.moved_to-offer.result (bound_by interesting c.args.row.now c.args.wanted)) c.as_slice-2.ensures c.in_ok-more.ensures.fell)
