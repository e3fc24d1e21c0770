use Rattle.std.proofs.Common.{sym, subst}
use Rattle.pdw_ways.proofs.LeastOffers.{local-best}
use Rattle.pdw_ways.specs.Bounds.{bound_in, sum_of}
use Rattle.pdw_ways.specs.Offers.{Best, IsLocalWay}
use Rattle.pdw_ways.proofs.least.local_offer.Goals as goal

pub returns : goal.returns
returns c = λ costs number. subst (λ offer. Best (IsLocalWay c.args.group.now c.args.wanted) (sum_of costs (bound_in c.args.kept.now.groups.now c.args.kept.now.lists.now) number) offer) (sym c.local_within.ensures) (local-best c.args.kept.now.groups.now c.args.kept.now.lists.now c.args.group.now c.args.wanted costs number)
