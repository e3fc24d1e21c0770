use Rattle.std.proofs.Common.{sym, subst}
use Rattle.pdw_ways.proofs.LeastOffers.{inner-best-of}
use Rattle.pdw_ways.specs.Bounds.{row_bound, sum_of}
use Rattle.pdw_ways.specs.Costing.{adds_by}
use Rattle.pdw_ways.specs.Offers.{Best, IsInnerWay}
use Rattle.pdw_ways.proofs.least.inner_offer.Goals as goal

pub returns : goal.returns
returns c = λ costs number agree. subst (λ offer. Best (IsInnerWay c.args.row.now.group.now c.args.wanted) (sum_of costs (row_bound c.args.row.now.group.now.interesting c.args.row.now.bounds.now) number) offer) (sym c.inner_within.ensures)
    (inner-best-of c.args.row.now.group.now c.args.row.now.bounds.now c.args.wanted (adds_by c.args.reckoning.now.n c.args.reckoning.now.constants.now c.args.reckoning.now.flow) costs number agree)
