-- Which statements lexemes spell.
use Rattle.std.specs.Prelude.{List, length}
use Rattle.pdw_lex.specs.declared.token.Lexeme.{Lexeme}
use Rattle.pdw_syntax.specs.Texts.{IsText}
use Rattle.pdw_syntax.specs.declared.statement.Statement.{Statement}
use Rattle.pdw_reading.specs.Depth.{IsShallow}
use Rattle.pdw_reading.specs.declared.limit.TheConstants.{MOST_OPEN}

-- the lexemes are a text of the grammar that means the statements, and no more parentheses are open at a place than may be
pub record Spells (text : List Lexeme) (statements : List Statement) : Type 0 where
  pub means : IsText text statements
  pub shallow : IsShallow MOST_OPEN text (length text)
