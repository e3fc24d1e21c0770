-- The like predicate (SQL-92, 8.5), over the characters of a text: its Unicode scalar values.
use Rattle.std.specs.Prelude.{◌≢◌, ℕ, ◌==◌, ◌||◌, ◌&&◌, Bool, true, false, List, [], ◌∷◌, ◌++◌, if◌then◌else◌}
use Rattle.std.specs.Str.{chars}
use Rattle.pdw_base.specs.declared.truth.Truth.{Truth}
use Rattle.pdw_base.specs.declared.truth.Truth.TheVariants.{Unknown}
use Rattle.pdw_base.specs.declared.value.Value.{Value}
use Rattle.pdw_base.specs.declared.value.Value.TheVariants.{Text}
use Rattle.pdw_expr.specs.Logic.{decided}

-- the character `%`
abbrev pub percent : ℕ
percent = 37

-- the character `_`
abbrev pub underscore : ℕ
underscore = 95

-- a pattern matches a text by these rules alone
pub data Matches : List ℕ → List ℕ → Type 0 where
  -- the empty pattern matches the empty text
  nothing : Matches [] []
  -- `%` and then a pattern match a text where the pattern matches some suffix of it
  any_run : (pattern before suffix : List ℕ) → Matches pattern suffix → Matches (percent ∷ pattern) (before ++ suffix)
  -- `_` and then a pattern match one character and then a text that the pattern matches
  any_one : (pattern text : List ℕ) (c : ℕ) → Matches pattern text → Matches (underscore ∷ pattern) (c ∷ text)
  -- any other character and then a pattern match that character and then a text that the pattern matches
  itself : (pattern text : List ℕ) (c : ℕ) → c ≢ percent → c ≢ underscore → Matches pattern text → Matches (c ∷ pattern) (c ∷ text)

-- a test passes at some suffix of the text
abbrev pub some_suffix : (List ℕ → Bool) → List ℕ → Bool
some_suffix test [] = test []
some_suffix test (c ∷ text) = test (c ∷ text) || some_suffix test text

abbrev pub is_empty : List ℕ → Bool
is_empty [] = true
is_empty (c ∷ text) = false

-- a character of a pattern other than `%` stands for one of a text: `_` for each, any other for itself
abbrev pub stands_for : ℕ → ℕ → Bool
stands_for c d = (c == underscore) || (c == d)

-- the first character passes one test, and the text after it another
abbrev pub after_one : (ℕ → Bool) → (List ℕ → Bool) → List ℕ → Bool
after_one first rest [] = false
after_one first rest (c ∷ text) = first c && rest text

-- the same rules as a test, by the pattern
abbrev pub matches : List ℕ → List ℕ → Bool
matches [] = is_empty
matches (c ∷ pattern) =
    if c == percent then some_suffix (matches pattern) else after_one (stands_for c) (matches pattern)

-- LIKE of a value and a pattern: Unknown where either is NULL or no text
abbrev pub like : Value → Value → Truth
like (Text text) (Text pattern) = decided (matches (chars pattern) (chars text))
like _ _ = Unknown
