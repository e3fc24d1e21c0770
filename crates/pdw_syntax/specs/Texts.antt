-- The texts of the grammar.
use Rattle.std.specs.Prelude.{ℕ, zero, suc, List, map}
use Rattle.std.specs.Str.{IsUtf8}
use Rattle.pdw_lex.specs.Lexes.{Lexes}
use Rattle.pdw_lex.specs.declared.sign.Sign.TheVariants.{Semicolon, Star}
use Rattle.pdw_lex.specs.declared.token.Lexeme.{Lexeme}
use Rattle.pdw_lex.specs.declared.token.Token.{Token}
use Rattle.pdw_syntax.specs.Rule.{Rule, ◌>>=◌, ◌>>◌, pure, Many}
use Rattle.pdw_syntax.specs.Lexemes.{sign}
use Rattle.pdw_syntax.specs.Parentheses.{Parentheses, no_parentheses}
use Rattle.pdw_syntax.specs.Exprs.{listed, expr}
use Rattle.pdw_syntax.specs.Conds.{cond}
use Rattle.pdw_syntax.specs.Tables.{table_reference}
use Rattle.pdw_syntax.specs.Queries.{query}
use Rattle.pdw_syntax.specs.Statements.{statement}
use Rattle.pdw_syntax.specs.declared.statement.Statement.{Statement}

-- what parentheses may hold, where these stand in the parentheses inside them
abbrev pub parentheses_around : Parentheses → Parentheses
parentheses_around g = record { star = sign Star; expr = expr g; exprs = listed (expr g); cond = cond g; query = query g; tables = table_reference g }

-- what parentheses may hold where at most so many are open at a place
unfoldable pub parentheses : ℕ → Parentheses
parentheses zero = no_parentheses
parentheses (suc n) = parentheses_around (parentheses n)

-- { statement ; }
abbrev pub script : Parentheses → Rule (List Statement)
script g = Many (statement g >>= (λ s. sign Semicolon >> pure s))

-- the lexemes are a text of the grammar, and these are its statements
pub record IsText (text : List Lexeme) (statements : List Statement) : Type 0 where
  pub levels : ℕ
  pub spells : script (parentheses levels) text statements

-- how many parentheses may be open at a place
abbrev pub most_open : ℕ
most_open = 32

-- some text of the grammar, with no more parentheses open than may be, means the statement
pub record IsWritten (x : Statement) : Type 0 where
  pub bytes : List ℕ
  pub tokens : List Token
  pub utf8 : IsUtf8 bytes
  pub lexes : Lexes 0 bytes tokens
  pub spells : statement (parentheses most_open) (map (λ t. t.lexeme) tokens) x
