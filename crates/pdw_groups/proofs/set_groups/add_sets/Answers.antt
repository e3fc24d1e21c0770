use Rattle.std.proofs.Common.{◌≡◌, ◌^◌, ◌++◌, ◌∷◌, [], length, sym, ap, ap₂, subst, ◌∙◌, arith, if◌then◌else◌}
use Rattle.std.specs.List.{AllByRecursion}
use Rattle.std.proofs.lemmas.List.{length-map}
use Rattle.pdw_groups.proofs.SetGroupLemmas.{below-length, flags-lengths, kept-count, kept-next, map-next, room-next}
use Rattle.pdw_groups.specs.Block.{one_or}
use Rattle.pdw_groups.specs.Level.{below, has_set, set_of}
use Rattle.pdw_groups.specs.Sets.{flags, kept_part, kept_set, schemas, set_with}
use Rattle.pdw_parts.specs.Part.{chosen}
use Rattle.pdw_groups.proofs.set_groups.add_sets.Goals as goal

pub add_set-requires-clause-insides : goal.add_set-requires-clause-insides
add_set-requires-clause-insides c =
    subst (AllByRecursion (λ flags. length flags ≡ length c.args.conds.now)) (sym (c.as_slice.ensures.value ∙ c.in_ok-insides.ensures))
    (flags-lengths (schemas c.args.sides.now) c.args.conds.now (below (2 ^ length c.args.sides.now)))

pub add_set-requires-clause-whole : goal.add_set-requires-clause-whole
add_set-requires-clause-whole c =
    let count = ap length (c.as_slice.ensures.value ∙ c.in_ok-insides.ensures) ∙ length-map (below (2 ^ length c.args.sides.now)) (flags (schemas c.args.sides.now) c.args.conds.now) ∙ below-length (2 ^ length c.args.sides.now) in
    omega (arith, count, c.loop-mask-test.true, c.only-mask-end.ensures)

pub add_set-requires-clause-parts : goal.add_set-requires-clause-parts
add_set-requires-clause-parts c =
    let count = ap length (c.as_slice-in-loop-mask.ensures.value ∙ c.loop-mask.invariant.parts) ∙ length-map (below c.loop-mask.mask) _ ∙ below-length c.loop-mask.mask in
    omega (arith, count)

pub loop-mask-preserved : goal.loop-mask-preserved
loop-mask-preserved c =
    let first = length c.args.groups.now in
    let set = kept_set c.args.useful.now c.args.block c.args.level c.args.sides.now c.args.conds.now c.args.singles.now first in
    let insides = c.as_slice.ensures.value ∙ c.in_ok-insides.ensures in
    let parts = c.as_slice-in-loop-mask.ensures.value ∙ c.loop-mask.invariant.parts in
    let added = c.in_ok-add_set.ensures ∙ ap₂ (λ a b. c.loop-mask.groups ++ (if has_set c.args.level c.loop-mask.mask then set_with c.args.useful.now c.args.block c.args.level c.args.sides.now c.args.conds.now a b c.loop-mask.mask ∷ [] else [])) insides parts in
    let count = kept-count set c.loop-mask.mask (has_set c.args.level) c.args.groups.now c.loop-mask.groups c.loop-mask.invariant.groups in
    record {
      groups = kept-next set c.loop-mask.mask (has_set c.args.level) c.args.groups.now c.loop-mask.groups c.add_set.new.groups c.loop-mask.invariant.groups added;
      parts =
          c.in_ok-push.ensures.items
          ∙ ap₂ (λ some one. some ++ one ∷ []) c.loop-mask.invariant.parts
          (c.part_of-part.ensures ∙ ap (λ n. one_or (chosen (set_of c.loop-mask.mask) c.args.singles.now) (record { 0 = n })) (c.len.ensures ∙ count))
          ∙ sym (map-next (kept_part c.args.level c.args.singles.now first) c.loop-mask.mask);
      room = room-next set c.loop-mask.mask (has_set c.args.level) c.args.groups.now c.loop-mask.groups c.add_set.new.groups c.loop-mask.invariant.groups added c.loop-mask.invariant.room;
    }
