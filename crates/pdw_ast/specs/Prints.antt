-- What printing a statement promises.
use Rattle.std.specs.Prelude.{ℕ, List, [], ◌∷◌, ◌++◌, codes, map}
use Rattle.std.specs.Str.{IsUtf8}
use Rattle.pdw_lex.specs.Lexes.{Lexes}
use Rattle.pdw_lex.specs.declared.token.Token.{Token}
use Rattle.pdw_syntax.specs.Texts.{parentheses, most_open, script}
use Rattle.pdw_syntax.specs.declared.statement.Statement.{Statement}

-- the bytes and ` ;` are a script of this statement alone
pub record MeansAlone (bytes : List ℕ) (x : Statement) : Type 0 where
  pub tokens : List Token
  pub utf8 : IsUtf8 (bytes ++ codes " ;")
  pub lexes : Lexes 0 (bytes ++ codes " ;") tokens
  pub spells : script (parentheses most_open) (map (λ t. t.lexeme) tokens) (x ∷ [])
