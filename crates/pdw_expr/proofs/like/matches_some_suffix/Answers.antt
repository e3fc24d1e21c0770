use Rattle.std.proofs.Common.{sym, ◌∙◌}
use Rattle.std.specs.Str.{chars}
use Rattle.pdw_expr.specs.Like.{matches}
use Rattle.pdw_expr.proofs.LikeLemmas.{some_suffix-here, first_match}
use Rattle.pdw_expr.proofs.like.matches_some_suffix.Goals as goal

pub returns-in-Ends-true : goal.returns-in-Ends-true
returns-in-Ends-true c =
    let matched = sym c.in-Ends-true.ensures ∙ c.in-Ends-true.field-0-test in
    sym (some_suffix-here (matches (chars c.loop-rest.pattern.now)) (chars c.loop-rest.text.now) matched) ∙ c.loop-rest.invariant.2

pub loop-rest-preserved : goal.loop-rest-preserved
loop-rest-preserved c = (c.in-Percent.ensures.0, c.in-Percent.ensures.1, first_match _ _ _ _ c.in-Percent.ensures.2 ∙ c.loop-rest.invariant.2)
