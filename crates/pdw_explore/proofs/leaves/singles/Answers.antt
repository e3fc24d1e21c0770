use Rattle.std.proofs.Common.{◌+◌, ◌++◌, ◌∷◌, [], drop, ap, ap₂, ◌∙◌, arith, if◌then◌else◌, ℕ, ◌≤◌, Bool, true, false}
use Rattle.std.specs.List.{list_any}
use Rattle.pdw_explore.proofs.Loops.{singles-next}
use Rattle.pdw_groups.specs.Sets.{kept_singles}
use Rattle.pdw_groups.specs.declared.key.GroupId.{GroupId}
use Rattle.pdw_parts.specs.Part.{is_inside}
use Rattle.pdw_explore.proofs.leaves.singles.Goals as goal

pub loop-side-preserved : goal.loop-side-preserved
loop-side-preserved c =
    let b = c.has_inside-has_second.result in
    let inside = c.has_inside-has_second.ensures ∙ ap (λ columns. list_any (is_inside columns) c.args.conds.now) c.cols.ensures.columns in
    let next = singles-next c.args.conds.now c.loop-side.next c.args.sides.now c.loop-side.side-index c.side-item.result c.loop-side-test.true c.side-item.is b inside c.loop-side.singles _ c.loop-side.invariant.singles in
    record {
      singles =
          ap₂ (λ some (m : ℕ). some ++ kept_singles c.args.conds.now (c.loop-side.next + m) (drop (c.loop-side.side-index + 1) c.args.sides.now))
          (c.in_ok-push.ensures.ok ∙ ap (λ (id : GroupId). c.loop-side.singles ++ id ∷ []) c.single.ensures) c.second_count-next.ensures
          ∙ next;
      next = omega (arith, c.loop-side.invariant.next, one-most b, c.second_count-next.ensures);
    }
  where
    one-most : (b : Bool) → (if b then 1 else 0) ≤ 1
    one-most true = omega arith
    one-most false = omega arith
