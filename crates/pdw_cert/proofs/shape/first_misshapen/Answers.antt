use Rattle.std.proofs.Common.{◌≡◌, ◌==◌, ◌∙◌, true, false, List, Option, ℕ, ap, Some, length, refl, sym, subst, arith}
use Rattle.pdw_rules.specs.Rules.{properties_of}
use Rattle.std.proofs.lemmas.Option.{slice_get_read}
use Rattle.pdw_cert.proofs.ShapeLemmas.{fit, missing, none-left, surplus, unfit}
use Rattle.pdw_cert.proofs.shape.first_misshapen.Goals as goal

pub returns-in_default : goal.returns-in_default
returns-in_default c =
    let there = slice_get_read c.args.groups.now (length c.args.groups.now) c.loop-place.place c.index-groups-place.result refl c.loop-place-test.true c.index-groups-place.is in
    sym (missing c.args.groups.now c.args.lists.now c.loop-place.place c.loop-place.invariant c.index-groups-place.result there (sym c.in_default.ensures))

pub returns-then-not-fits : goal.returns-then-not-fits
returns-then-not-fits c =
    let there = slice_get_read c.args.groups.now (length c.args.groups.now) c.loop-place.place c.index-groups-place.result refl c.loop-place-test.true c.index-groups-place.is in
    sym (unfit c.args.groups.now c.args.lists.now c.loop-place.place c.loop-place.invariant c.index-groups-place.result there c.in-Some.list.now (sym c.in-Some.ensures)
    (subst (λ (list : List (Option ℕ)). (length list == length (properties_of c.index-groups-place.result.interesting)) ≡ false) c.as_slice.ensures (sym c.fits.ensures ∙ c.if-not-fits.true)))

pub loop-place-preserved : goal.loop-place-preserved
loop-place-preserved c =
    let there = slice_get_read c.args.groups.now (length c.args.groups.now) c.loop-place.place c.index-groups-place.result refl c.loop-place-test.true c.index-groups-place.is in
    fit c.args.groups.now c.args.lists.now c.loop-place.place c.loop-place.invariant c.index-groups-place.result there c.in-Some.list.now (sym c.in-Some.ensures)
    (subst (λ (list : List (Option ℕ)). (length list == length (properties_of c.index-groups-place.result.interesting)) ≡ true) c.as_slice.ensures (sym c.fits.ensures ∙ c.if-not-fits.false))

pub returns-then-groups-lists : goal.returns-then-groups-lists
returns-then-groups-lists c =
    let end : c.loop-place.place ≡ length c.args.groups.now = omega (arith, c.loop-place-test.false, c.loop-place.auto.place-end) in
    ap (λ (n : ℕ). Some n) (sym end) ∙ sym (surplus c.args.groups.now c.args.lists.now c.loop-place.place c.loop-place.invariant c.loop-place-test.false (omega (arith, end, c.if-groups-lists.true)))

pub returns : goal.returns
returns c =
    let end : c.loop-place.place ≡ length c.args.groups.now = omega (arith, c.loop-place-test.false, c.loop-place.auto.place-end) in
    sym (none-left c.args.groups.now c.args.lists.now c.loop-place.place c.loop-place.invariant c.loop-place-test.false (omega (arith, end, c.if-groups-lists.false)))
