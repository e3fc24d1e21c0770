-- What the bytes of a script are.
use Rattle.std.specs.Prelude.{ℕ, Bool, false, not, ◌==◌, ◌||◌, List, [], ◌∷◌}
use Rattle.std.specs.Char.{is_ascii_alphabetic, is_ascii_digit}

-- a space, a tab, a carriage return or a line feed
abbrev pub is_separator : ℕ → Bool
is_separator b = (b == 32) || (b == 9) || (b == 13) || (b == 10)

-- a letter, or an underscore
abbrev pub is_letter : ℕ → Bool
is_letter b = is_ascii_alphabetic b || (b == 95)

abbrev pub is_word_byte : ℕ → Bool
is_word_byte b = is_letter b || is_ascii_digit b

abbrev pub is_quote : ℕ → Bool
is_quote b = b == 39

-- what a line ends with is no part of it: a line feed
abbrev pub is_in_line : ℕ → Bool
is_in_line b = not (b == 10)

-- the bytes begin with such a byte
abbrev pub begins_with : (ℕ → Bool) → List ℕ → Bool
begins_with test [] = false
begins_with test (b ∷ bs) = test b
