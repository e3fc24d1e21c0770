use Rattle.std.proofs.Common.{sym, ◌∙◌}
use Rattle.pdw_expr.proofs.LikeLemmas.{passed-more, reached, ended, out_of_text, differed}
use Rattle.pdw_expr.proofs.like.first_run.Goals as goal

pub returns-then-wanted-eq37 : goal.returns-then-wanted-eq37
returns-then-wanted-eq37 c = (c.in-Some.ensures.1, c.loop-wanted.invariant.1, reached _ _ _ _ _ _ c.loop-wanted.invariant.2 c.in-Some.ensures.0 c.if-wanted-eq37.true)

pub returns-in_default-split_first : goal.returns-in_default-split_first
returns-in_default-split_first c = out_of_text _ _ _ _ _ _ c.loop-wanted.invariant.2 c.in-Some.ensures.0 c.in_default-split_first.ensures c.if-wanted-eq37.false

pub returns-then-not-can_stand_for : goal.returns-then-not-can_stand_for
returns-then-not-can_stand_for c =
    differed _ _ _ _ _ _ _ _ c.loop-wanted.invariant.2 c.in-Some.ensures.0 c.in-Some-split_first.ensures.0 c.if-wanted-eq37.false
    (sym c.can_stand_for.ensures ∙ c.if-not-can_stand_for.true)

pub loop-wanted-preserved : goal.loop-wanted-preserved
loop-wanted-preserved c = (
  c.in-Some.ensures.1,
  c.in-Some-split_first.ensures.1,
  passed-more _ _ _ _ _ _ _ _ c.loop-wanted.invariant.2 c.in-Some.ensures.0 c.in-Some-split_first.ensures.0 c.if-wanted-eq37.false
      (sym c.can_stand_for.ensures ∙ c.if-not-can_stand_for.false),
)

pub returns : goal.returns
returns c = c.is_at_end.ensures ∙ ended _ _ _ _ c.loop-wanted.invariant.2 c.in_default.ensures
