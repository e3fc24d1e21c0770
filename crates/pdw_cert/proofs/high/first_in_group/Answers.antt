use Rattle.std.proofs.Common.{◌≡◌, ◌≤◌, Some, length, subst, arith}
use Rattle.std.specs.List.{slice_get}
use Rattle.pdw_rules.specs.Rules.{properties_of}
use Rattle.pdw_ways.specs.Bounds.{bound_in}
use Rattle.pdw_cert.proofs.Searches.{high-in-group, next-in-group, none-in-group}
use Rattle.pdw_cert.proofs.high.first_in_group.Goals as goal

pub returns-in-Some : goal.returns-in-Some
returns-in-Some c = λ costs agree.
    high-in-group c.args.kept.now.groups.now costs (bound_in c.args.kept.now.groups.now c.args.kept.now.lists.now) c.args.number c.args.group.now c.loop-place.place c.property_at.result
    (subst (λ interesting. slice_get (properties_of interesting) c.loop-place.place ≡ Some c.property_at.result) c.as_slice-columns.ensures c.property_at.ensures)
    (c.loop-place.invariant costs agree) c.in-Some.high (c.in-Some.ensures costs agree)

pub loop-place-preserved : goal.loop-place-preserved
loop-place-preserved c = λ costs agree.
    next-in-group c.args.kept.now.groups.now costs (bound_in c.args.kept.now.groups.now c.args.kept.now.lists.now) c.args.number c.args.group.now c.loop-place.place c.property_at.result
    (subst (λ interesting. slice_get (properties_of interesting) c.loop-place.place ≡ Some c.property_at.result) c.as_slice-columns.ensures c.property_at.ensures)
    (c.loop-place.invariant costs agree) (c.in_default.ensures costs agree)

pub returns : goal.returns
returns c = λ costs agree.
    none-in-group c.args.kept.now.groups.now costs (bound_in c.args.kept.now.groups.now c.args.kept.now.lists.now) c.args.number c.args.group.now c.loop-place.place
    (subst (λ interesting. length (properties_of interesting) ≤ c.loop-place.place) c.as_slice-columns.ensures (omega (arith, c.property_count-place-end.ensures, c.loop-place-test.false))) (c.loop-place.invariant costs agree)
