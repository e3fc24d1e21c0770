-- What may follow a text without prolonging it.
use Rattle.std.proofs.Common.{Bool, true, false, Option, Some}
use Rattle.pdw_lex.specs.declared.keyword.Keyword.TheVariants.{KwAnd, KwAs, KwIs, KwOr}
use Rattle.pdw_lex.specs.declared.sign.Sign.TheVariants.{Dot, Minus, Percent, Plus, Slash, Star}
use Rattle.pdw_lex.specs.declared.token.Lexeme.{Lexeme}
use Rattle.pdw_lex.specs.declared.token.Lexeme.TheVariants.{Key, Name, Sign}

-- a value expression
abbrev pub ends_expr : Option Lexeme → Bool
ends_expr (Some (Sign Dot)) = false
ends_expr (Some (Sign Star)) = false
ends_expr (Some (Sign Slash)) = false
ends_expr (Some (Sign Percent)) = false
ends_expr (Some (Sign Plus)) = false
ends_expr (Some (Sign Minus)) = false
ends_expr o = true

-- a condition
abbrev pub ends_cond : Option Lexeme → Bool
ends_cond (Some (Key KwAnd)) = false
ends_cond (Some (Key KwOr)) = false
ends_cond (Some (Key KwIs)) = false
ends_cond o = ends_expr o

-- a name that an alias may follow
abbrev pub ends_alias : Option Lexeme → Bool
ends_alias (Some (Key KwAs)) = false
ends_alias (Some (Name n)) = false
ends_alias o = true
