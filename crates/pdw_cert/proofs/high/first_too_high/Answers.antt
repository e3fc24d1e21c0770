use Rattle.std.proofs.Common.{length, refl, arith}
use Rattle.std.proofs.lemmas.Option.{slice_get_read}
use Rattle.pdw_plan.specs.Cost.{costs_in}
use Rattle.pdw_ways.specs.Bounds.{bound_in}
use Rattle.pdw_cert.specs.TooHigh.{all_made}
use Rattle.pdw_cert.proofs.Searches.{high-in-groups, next-in-groups, none-in-groups}
use Rattle.pdw_cert.proofs.high.first_too_high.Goals as goal

pub overflow_cast-number : goal.overflow_cast-number
overflow_cast-number c = omega (arith, c.requires.few, c.loop-place-test.true)

pub first_in_group-requires-clause-there : goal.first_in_group-requires-clause-there
first_in_group-requires-clause-there c = slice_get_read c.args.kept.now.groups.now (length c.args.kept.now.groups.now) c.loop-place.place c.group-item.result refl c.loop-place-test.true c.group-item.is

pub returns-in-Some : goal.returns-in-Some
returns-in-Some c = λ is.
    let there = slice_get_read c.args.kept.now.groups.now (length c.args.kept.now.groups.now) c.loop-place.place c.group-item.result refl c.loop-place-test.true c.group-item.is in
    high-in-groups c.args.kept.now.groups.now (costs_in c.args.p.now.memo.now is c.args.p.now.book.now c.args.p.now.n c.args.p.now.constants.now) (bound_in c.args.kept.now.groups.now c.args.kept.now.lists.now) c.loop-place.place c.group-item.result there (all_made c.args.kept.now.groups.now)
    (c.loop-place.invariant is) c.in-Some.high (c.in-Some.ensures (costs_in c.args.p.now.memo.now is c.args.p.now.book.now c.args.p.now.n c.args.p.now.constants.now) (c.reckoning_of-reckoning.ensures.agrees is))

pub loop-place-preserved : goal.loop-place-preserved
loop-place-preserved c = λ is.
    let there = slice_get_read c.args.kept.now.groups.now (length c.args.kept.now.groups.now) c.loop-place.place c.group-item.result refl c.loop-place-test.true c.group-item.is in
    next-in-groups c.args.kept.now.groups.now (costs_in c.args.p.now.memo.now is c.args.p.now.book.now c.args.p.now.n c.args.p.now.constants.now) (bound_in c.args.kept.now.groups.now c.args.kept.now.lists.now) c.loop-place.place c.group-item.result there (all_made c.args.kept.now.groups.now)
    (c.loop-place.invariant is) (c.in_default.ensures (costs_in c.args.p.now.memo.now is c.args.p.now.book.now c.args.p.now.n c.args.p.now.constants.now) (c.reckoning_of-reckoning.ensures.agrees is))

pub returns : goal.returns
returns c = λ is.
    none-in-groups c.args.kept.now.groups.now (costs_in c.args.p.now.memo.now is c.args.p.now.book.now c.args.p.now.n c.args.p.now.constants.now) (bound_in c.args.kept.now.groups.now c.args.kept.now.lists.now) c.loop-place.place (all_made c.args.kept.now.groups.now) c.loop-place-test.false (c.loop-place.invariant is)
