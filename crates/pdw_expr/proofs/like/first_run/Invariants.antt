use Rattle.std.proofs.Common.{length}
use denote.Text.{Utf8}
use denote.Shadow.{shadow}
use Rattle.std.specs.Str.{chars}
use Rattle.pdw_expr.proofs.LikeLemmas.{HasPassed}
use Rattle.pdw_expr.proofs.like.first_run.Given as goal

abbrev pub invariant-loop-wanted : goal.invariant-loop-wanted
invariant-loop-wanted l = shadow (Utf8 l.pattern) × shadow (Utf8 l.text) × HasPassed (chars l.fn.pattern) (chars l.fn.text) (chars l.pattern) (chars l.text)

abbrev pub decreases-loop-wanted : goal.decreases-loop-wanted
decreases-loop-wanted l = length (chars l.pattern)
