use Rattle.std.proofs.Common.{◌+◌, ◌^◌, ◌++◌, length, ap, ap₂, ◌∙◌, arith, append_assoc, length-append}
use Rattle.pdw_groups.proofs.ColumnLemmas.{OnOk-map}
use Rattle.pdw_groups.proofs.SingleLemmas.{kept_seconds-most, kept_singles-length}
use Rattle.pdw_groups.specs.Sets.{kept_seconds, kept_sets}
use Rattle.pdw_groups.proofs.blocks.add_block.Goals as goal

pub add_sets-requires-clause-singles : goal.add_sets-requires-clause-singles
add_sets-requires-clause-singles c =
    ap length (c.as_slice.ensures ∙ c.in_ok-singles.ensures.singles) ∙ kept_singles-length c.args.conds.now (length c.args.groups.now) c.args.sides.now

pub add_sets-requires-clause-room : goal.add_sets-requires-clause-room
add_sets-requires-clause-room c =
    let seconds = kept_seconds c.args.conds.now c.args.useful.now c.args.block 0 c.args.sides.now in
    let all = ap length c.in_ok-singles.ensures.groups ∙ length-append c.args.groups.now seconds in
    let most = kept_seconds-most c.args.conds.now c.args.useful.now c.args.block 0 c.args.sides.now in
    omega (arith, all, most, c.requires.room)

pub returns : goal.returns
returns c =
    let seconds = kept_seconds c.args.conds.now c.args.useful.now c.args.block 0 c.args.sides.now in
    let singles = c.as_slice.ensures ∙ c.in_ok-singles.ensures.singles in
    let count = ap length c.in_ok-singles.ensures.groups ∙ length-append c.args.groups.now seconds in
    OnOk-map c.add_sets.result (λ added.
    added
    ∙ ap₂ (λ some n. some ++ kept_sets c.args.useful.now c.args.block c.args.level c.args.sides.now c.args.conds.now c.as_slice.result.now n (2 ^ length c.args.sides.now)) c.in_ok-singles.ensures.groups count
    ∙ ap (λ ids. (c.args.groups.now ++ seconds) ++ kept_sets c.args.useful.now c.args.block c.args.level c.args.sides.now c.args.conds.now ids (length c.args.groups.now + length seconds) (2 ^ length c.args.sides.now)) singles
    ∙ append_assoc c.args.groups.now seconds _)
    c.add_sets.ensures
