use Rattle.std.proofs.Common.{◌∙◌, sym, length}
use Rattle.pdw_groups.proofs.PartLemmas.{one-part, one-place, other-part}
use Rattle.pdw_groups.proofs.joins.part_of.Goals as goal

pub bounds-singles-mask : goal.bounds-singles-mask
bounds-singles-mask c = (one-place (length c.args.singles.now) c.args.mask c.requires.inside c.ranges.mask.fits (sym c.is_one.ensures ∙ c.if-is_one.true)).0

pub returns-then-is_one : goal.returns-then-is_one
returns-then-is_one c =
    let one = sym c.is_one.ensures ∙ c.if-is_one.true in
    let place = one-place (length c.args.singles.now) c.args.mask c.requires.inside c.ranges.mask.fits one in
    one-part c.args.singles.now c.args.mask _ _ c.args.next c.requires.inside place.0 place.1 one

pub returns : goal.returns
returns c = other-part c.args.singles.now c.args.mask c.args.next c.requires.inside (sym c.is_one.ensures ∙ c.if-is_one.false)
