-- How far a pattern matches a text before its first `%`.
use Rattle.std.specs.Prelude.{◌≡◌, ◌≢◌, ℕ, List, ◌∷◌, ◌++◌, length, drop}
use Rattle.std.specs.List.{AllByRecursion}
use Rattle.std.specs.Str.{IsUtf8, chars}
use Rattle.pdw_expr.specs.Like.{percent, matches, some_suffix}
use Rattle.pdw_expr.specs.declared.like.Run.{Run}
use Rattle.pdw_expr.specs.declared.like.Run.TheVariants.{Ends, Percent}

-- each character of the part before the `%` took one of the text, and the rest decides
pub record ReachesPercent (pattern text later left : List ℕ) : Type 0 where
  pub part : List ℕ
  pub plain : AllByRecursion (λ c. c ≢ percent) part
  pub split : pattern ≡ part ++ percent ∷ later
  pub passed : left ≡ drop (length part) text
  pub same : matches pattern text ≡ some_suffix (matches later) left

abbrev pub IsRun : List ℕ → List ℕ → Run → Type 0
IsRun pattern text (Ends answer) = answer ≡ matches pattern text
IsRun pattern text (Percent later left) = IsUtf8 later.now × IsUtf8 left.now × ReachesPercent pattern text (chars later.now) (chars left.now)
