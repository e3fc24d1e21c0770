-- How many parentheses are open at a place.
use Rattle.std.specs.Prelude.{ℕ, ◌+◌, ◌-◌, ◌≤◌, List, take, fold}
use Rattle.pdw_lex.specs.declared.sign.Sign.TheVariants.{ParenOpen, ParenClose}
use Rattle.pdw_lex.specs.declared.token.Lexeme.{Lexeme}
use Rattle.pdw_lex.specs.declared.token.Lexeme.TheVariants.{Sign}

-- how many are open after one more lexeme
abbrev pub open_past : ℕ → Lexeme → ℕ
open_past open_before (Sign ParenOpen) = open_before + 1
open_past open_before (Sign ParenClose) = open_before - 1
open_past open_before _ = open_before

-- how many are open after the lexemes
abbrev pub open_after : List Lexeme → ℕ
open_after = fold open_past 0

-- at no place before this one are more open
abbrev pub IsShallow : ℕ → List Lexeme → ℕ → Type 0
IsShallow most text before = (place : ℕ) → place ≤ before → open_after (take place text) ≤ most
