use Rattle.std.proofs.Common.{◌^◌, ◌<◌, length, sym, ap, subst, ◌∙◌, arith, length-append}
use Rattle.std.specs.List.{AllByRecursion}
use Rattle.std.proofs.lemmas.List.{length-map}
use Rattle.pdw_explore.proofs.FewLeaves.{few-leaves}
use Rattle.pdw_explore.proofs.Loops.{after-most, sets-most, sides-range}
use Rattle.pdw_explore.specs.Grown.{leaf_at}
use Rattle.pdw_groups.proofs.SingleLemmas.{kept_singles-length}
use Rattle.pdw_explore.proofs.grown.explore_block.Goals as goal

pub after_leaves-first-requires : goal.after_leaves-first-requires
after_leaves-first-requires c =
    subst (AllByRecursion (λ side. side.group.0 < 2 ^ 31)) (sym (c.as_slice-2.ensures ∙ c.in_ok-sides.ensures))
    (sides-range (2 ^ 31) c.args.grown.now c.as_slice.result.now (omega (arith, c.requires.room)) (subst (AllByRecursion _) (sym c.as_slice.ensures) c.requires.leaves))

pub singles-requires : goal.singles-requires
singles-requires c =
    let sides = c.as_slice-2.ensures ∙ c.in_ok-sides.ensures in
    let range = subst (AllByRecursion (λ side. side.group.0 < 2 ^ 31)) (sym sides)
    (sides-range (2 ^ 31) c.args.grown.now c.as_slice.result.now (omega (arith, c.requires.room)) (subst (AllByRecursion _) (sym c.as_slice.ensures) c.requires.leaves)) in
    let most = after-most (2 ^ 31) c.as_slice-2.result.now 0 (omega arith) range in
    let count = ap length (c.as_slice-3.ensures ∙ c.in_ok-sides.ensures) ∙ length-map c.as_slice.result.now (leaf_at c.args.grown.now) ∙ ap length c.as_slice.ensures in
    omega (arith, most, count, c.requires.few, c.after_leaves-first.ensures)

pub add_sets-requires-clause-singles : goal.add_sets-requires-clause-singles
add_sets-requires-clause-singles c =
    ap length (c.as_slice-5.ensures ∙ c.in_ok-singles.ensures) ∙ kept_singles-length c.as_slice-conds.result.now c.after_leaves-first.result c.as_slice-3.result.now
    ∙ ap length (c.as_slice-3.ensures ∙ sym c.as_slice-4.ensures)

pub add_sets-requires-clause-room : goal.add_sets-requires-clause-room
add_sets-requires-clause-room c =
    let count = ap length (c.as_slice-4.ensures ∙ c.in_ok-sides.ensures) ∙ length-map c.as_slice.result.now (leaf_at c.args.grown.now) ∙ ap length c.as_slice.ensures in
    let powers = (few-leaves (length c.as_slice-4.result.now) (omega (arith, count, c.requires.few))).two in
    omega (arith, powers, c.requires.room)

pub last_of-last-requires : goal.last_of-last-requires
last_of-last-requires c =
    let count = ap length (c.as_slice-4.ensures ∙ c.in_ok-sides.ensures) ∙ length-map c.as_slice.result.now (leaf_at c.args.grown.now) ∙ ap length c.as_slice.ensures in
    let powers = (few-leaves (length c.as_slice-4.result.now) (omega (arith, count, c.requires.few))).two in
    let most = sets-most c.args.useful.now c.args.block c.args.level c.as_slice-4.result.now c.as_slice-conds.result.now c.as_slice-5.result.now (length c.args.grown.now.groups) (2 ^ length c.as_slice-4.result.now) in
    let all = ap length (c.as_slice-6.ensures ∙ c.in_ok-add_sets.ensures) ∙ length-append c.args.grown.now.groups _ in
    omega (arith, powers, most, all, c.requires.room)
