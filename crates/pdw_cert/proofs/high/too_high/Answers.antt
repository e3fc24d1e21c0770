use Rattle.pdw_ways.specs.Bounds.{bound_in}
use Rattle.pdw_cert.proofs.Searches.{searched-fine, searched-high, searched-never}
use Rattle.pdw_cert.proofs.high.too_high.Goals as goal

pub returns-in_default : goal.returns-in_default
returns-in_default c = λ costs agree. searched-never c.args.kept.now.groups.now costs (bound_in c.args.kept.now.groups.now c.args.kept.now.lists.now) c.args.made (c.in_default.ensures costs agree)

pub returns-then-exceeds : goal.returns-then-exceeds
returns-then-exceeds c = λ costs agree.
    searched-high c.args.kept.now.groups.now costs (bound_in c.args.kept.now.groups.now c.args.kept.now.lists.now) c.args.made c.in-Some.offer (c.in-Some.ensures costs agree) c.bound-bound.result c.bound-bound.ensures.bound c.requires.group c.if-exceeds.ensures

pub returns : goal.returns
returns c = λ costs agree.
    searched-fine c.args.kept.now.groups.now costs (bound_in c.args.kept.now.groups.now c.args.kept.now.lists.now) c.args.made c.in-Some.offer (c.in-Some.ensures costs agree) c.bound-bound.result c.bound-bound.ensures.bound c.if-exceeds.ensures
