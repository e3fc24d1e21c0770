use Rattle.std.proofs.Common.{◌≡◌, ◌+◌, ◌++◌, ◌∷◌, [], map, filter, sym, ap, ◌∙◌}
use Rattle.pdw_groups.proofs.PartLemmas.{kept-more, kept-same}
use Rattle.pdw_groups.specs.Level.{below, is_left}
use Rattle.pdw_groups.specs.Sets.{join_at}
use Rattle.pdw_groups.proofs.joins.joins.Goals.{then-is_left+in_ok-join_at+in_ok-push, else-is_left}
use Rattle.pdw_groups.proofs.joins.joins.Goals as goal

pub loop-left-preserved : goal.loop-left-preserved
loop-left-preserved c =
    let join = join_at c.args.conds.now c.args.insides.now c.args.parts.now c.args.mask in
    let test = is_left c.args.level c.args.mask in
    elim c.if-is_left.branch as (λ b. c.if-is_left.exprs ≡ map (join_at c.args.conds.now c.args.insides.now c.args.parts.now c.args.mask) (filter (is_left c.args.level c.args.mask) (below (c.loop-left.left + 1)))) [
      | then-is_left+in_ok-join_at+in_ok-push w ↦
          w.exprs-is ∙ kept-more join test c.loop-left.left (sym c.is_left.ensures ∙ w.if-is_left.true) c.loop-left.invariant
          (w.in_ok-push.ensures.ok ∙ ap (λ expr. c.loop-left.exprs ++ expr ∷ []) w.in_ok-join_at.ensures)
      | else-is_left w ↦ w.exprs-is ∙ kept-same join test c.loop-left.left (sym c.is_left.ensures ∙ w.if-is_left.false) c.loop-left.invariant
    ]
