use Rattle.std.proofs.Common.{◌<◌, get_or, length, sym, ap, subst, ◌∙◌, arith}
use Rattle.std.specs.List.{slice_set}
use Rattle.pdw_explore.proofs.Loops.{all-later, set-next, still-holds}
use Rattle.pdw_explore.specs.Grown.{new_number}
use Rattle.pdw_groups.specs.declared.key.GroupId.{GroupId}
use Rattle.pdw_explore.proofs.numbers.renumber.Goals as goal

abbrev none : GroupId
none = record { 0 = 0 }

pub new_number-requires : goal.new_number-requires
new_number-requires c =
    let within : c.loop-place.place < length c.args.ids.now = omega (arith, c.loop-place-test.true, c.len-place-end.ensures) in
    subst (λ (id : GroupId). id.0 < length c.args.numbers.now) (sym (c.id_at-old.ensures ∙ ap (λ ids. get_or ids c.loop-place.place none) c.as_slice.ensures))
    (still-holds (new_number c.args.numbers.now) (λ (id : GroupId). id.0 < length c.args.numbers.now) c.loop-place.ids c.args.ids.now c.loop-place.place none within c.loop-place.invariant.ids c.loop-place.invariant.range)

pub loop-place-preserved : goal.loop-place-preserved
loop-place-preserved c =
    let within : c.loop-place.place < length c.args.ids.now = omega (arith, c.loop-place-test.true, c.len-place-end.ensures) in
    record {
      ids =
          c.set.ensures
          ∙ ap (slice_set c.loop-place.ids c.loop-place.place)
          (c.new_number.ensures ∙ ap (new_number c.args.numbers.now) (c.id_at-old.ensures ∙ ap (λ ids. get_or ids c.loop-place.place none) c.as_slice.ensures))
          ∙ set-next (new_number c.args.numbers.now) c.loop-place.ids c.args.ids.now c.loop-place.place none within c.loop-place.invariant.ids;
      range = all-later (λ (id : GroupId). id.0 < length c.args.numbers.now) c.args.ids.now c.loop-place.place c.loop-place.invariant.range;
    }
