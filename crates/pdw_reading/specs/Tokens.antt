-- What tokens say.
use Rattle.std.specs.Prelude.{List, map}
use Rattle.pdw_lex.specs.declared.token.Lexeme.{Lexeme}
use Rattle.pdw_lex.specs.declared.token.Token.{Token}

abbrev pub lexemes : List Token → List Lexeme
lexemes = map (λ t. t.lexeme)
