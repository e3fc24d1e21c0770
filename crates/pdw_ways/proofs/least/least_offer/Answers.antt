use Rattle.std.proofs.Common.{sym, subst}
use Rattle.pdw_ways.proofs.LeastOffers.{least-found, least-missing, small-row}
use Rattle.pdw_ways.specs.Bounds.{IsSmall, bound_by}
use Rattle.pdw_ways.specs.Costing.{adds_by}
use Rattle.pdw_ways.proofs.least.least_offer.Goals as goal

pub inner_within-inner-requires-clause-small : goal.inner_within-inner-requires-clause-small
inner_within-inner-requires-clause-small c = λ p. subst (λ bounds. IsSmall (bound_by c.in-Some.group.now.interesting bounds p)) (sym c.as_slice.ensures)
    (small-row c.args.kept.now.groups.now c.args.kept.now.lists.now c.requires.small c.args.made.group c.in-Some.group.now c.in-Some-at.list.now (sym c.in-Some.ensures) (sym c.in-Some-at.ensures) p)

pub returns-in-Some-at : goal.returns-in-Some-at
returns-in-Some-at c = λ costs agree group there. least-found c.args.kept.now.groups.now c.args.kept.now.lists.now costs
    c.args.made.group c.args.made.prop group c.in-Some.group.now there c.in-Some.ensures (adds_by c.args.reckoning.now.n c.args.reckoning.now.constants.now c.args.reckoning.now.flow) agree c.in-Some-at.list.now c.as_slice.result.now c.local_within-local.result c.inner_within-inner.result c.cheaper.result
    c.in-Some-at.ensures c.as_slice.ensures c.local_within-local.ensures c.inner_within-inner.ensures c.cheaper.ensures

pub returns-in-None : goal.returns-in-None
returns-in-None c = λ costs agree group there. least-missing c.args.kept.now.groups.now c.args.kept.now.lists.now costs
    c.args.made.group c.args.made.prop group c.in-Some.group.now there c.in-Some.ensures c.local_within-local.result c.in-None.ensures c.local_within-local.ensures
