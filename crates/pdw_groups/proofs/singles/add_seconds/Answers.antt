use Rattle.std.proofs.Common.{◌^◌, ◌++◌, length, ap, ◌∙◌}
use Rattle.std.specs.List.{filter}
use Rattle.pdw_groups.proofs.SingleLemmas.{room-one_more, seconds-one_more, singles-one_more}
use Rattle.pdw_groups.specs.Sets.{kept_single, second_if}
use Rattle.pdw_groups.specs.declared.key.GroupKey.TheVariants as key
use Rattle.pdw_parts.specs.Part.{is_inside}
use Rattle.pdw_groups.proofs.singles.add_seconds.Goals as goal

pub loop-place-preserved : goal.loop-place-preserved
loop-place-preserved c =
    let side = c.index-sides-place.result in
    let inside = c.in_ok-inside.ensures ∙ ap (λ columns. filter (is_inside columns) c.args.conds.now) c.cols.ensures.columns in
    let added = c.in_ok-add_second.ensures.groups ∙ ap (λ n. c.loop-place.groups ++ second_if c.args.useful.now (key.Part c.args.block n) side c.in_ok-inside.inside) c.only.ensures ∙ ap (λ some. c.loop-place.groups ++ second_if c.args.useful.now (key.Part c.args.block (2 ^ c.loop-place.place)) side some) inside in
    let single = c.in_ok-add_second.ensures.single ∙ ap (kept_single (length c.loop-place.groups) side) inside in
    let where_at = seconds-one_more c.args.conds.now c.args.useful.now c.args.block c.args.sides.now c.loop-place.place side c.loop-place-test.true c.index-sides-place.is c.args.groups.now c.loop-place.groups c.add_second.new.groups c.loop-place.invariant.groups added in
    record {
      groups = where_at;
      singles = singles-one_more c.args.conds.now c.args.useful.now c.args.block c.args.sides.now c.loop-place.place side c.loop-place-test.true c.index-sides-place.is c.args.groups.now c.loop-place.groups c.add_second.new.groups c.loop-place.invariant.groups added
          single c.loop-place.invariant.singles c.in_ok-push.ensures.ok;
      room = room-one_more c.args.conds.now c.args.useful.now c.args.block c.args.sides.now c.loop-place.place side c.loop-place-test.true c.index-sides-place.is c.args.groups.now c.loop-place.groups c.add_second.new.groups c.loop-place.invariant.groups added
          c.loop-place.invariant.room;
    }
