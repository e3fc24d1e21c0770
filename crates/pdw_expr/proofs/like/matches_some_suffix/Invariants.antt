use Rattle.std.proofs.Common.{◌≡◌, ◌+◌, length}
use denote.Text.{Utf8}
use denote.Shadow.{shadow}
use Rattle.std.specs.Str.{chars}
use Rattle.pdw_expr.specs.Like.{matches, some_suffix}
use Rattle.pdw_expr.proofs.like.matches_some_suffix.Given as goal

abbrev pub invariant-loop-rest : goal.invariant-loop-rest
invariant-loop-rest l = shadow (Utf8 l.pattern) × shadow (Utf8 l.text)
    × (some_suffix (matches (chars l.pattern)) (chars l.text) ≡ some_suffix (matches (chars l.fn.pattern)) (chars l.fn.text))

abbrev pub decreases-loop-rest : goal.decreases-loop-rest
decreases-loop-rest l = length (chars l.pattern) + length (chars l.text)
