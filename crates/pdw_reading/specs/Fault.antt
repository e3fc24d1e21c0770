-- What is at fault in the tokens of a script.
use Rattle.std.specs.Prelude.{◌≡◌, ℕ, ◌+◌, ◌≤◌, ◌<◌, List, ◌++◌, take, length, Option, Some, None, slice_get}
use Rattle.pdw_lex.specs.declared.sign.Sign.TheVariants.{ParenOpen}
use Rattle.pdw_lex.specs.declared.token.Lexeme.{Lexeme}
use Rattle.pdw_lex.specs.declared.token.Lexeme.TheVariants.{Sign}
use Rattle.pdw_lex.specs.declared.token.Token.{Token}
use Rattle.pdw_syntax.specs.Texts.{IsText}
use Rattle.pdw_syntax.specs.declared.statement.Statement.{Statement}
use Rattle.pdw_reading.specs.Depth.{IsShallow, open_after}
use Rattle.pdw_reading.specs.Tokens.{lexemes}
use Rattle.pdw_reading.specs.declared.parse_error.ParseError.{ParseError}
use Rattle.pdw_reading.specs.declared.parse_error.ParseError.TheVariants.{Syntax, TooDeep, Memory}
use Rattle.pdw_reading.specs.declared.limit.TheConstants.{MOST_OPEN}

-- some text of the grammar begins with the lexemes
pub record Begins (front : List Lexeme) : Type 0 where
  pub more : List Lexeme
  pub statements : List Statement
  pub means : IsText (front ++ more) statements

-- this lexeme is the first that no text of the grammar has after those before it, or the lexemes end too early;
-- and no parenthesis before it is one too many to be open
pub record IsSyntaxFault (text : List Lexeme) (place : ℕ) : Type 0 where
  pub within : place ≤ length text
  pub before : Begins (take place text)
  pub here : place < length text → Begins (take (place + 1) text) → ⊥
  pub whole : (statements : List Statement) → IsText text statements → ⊥
  pub shallow : IsShallow MOST_OPEN text place

-- this lexeme is a parenthesis that some text of the grammar has after the lexemes before it,
-- and it is the first that is one too many to be open
pub record IsDepthFault (text : List Lexeme) (place : ℕ) : Type 0 where
  pub opens : slice_get text place ≡ Some (Sign ParenOpen)
  pub possible : Begins (take (place + 1) text)
  pub full : open_after (take place text) ≡ MOST_OPEN
  pub shallow : IsShallow MOST_OPEN text place

-- where a token begins in the script, or where the script ends
abbrev pub begins_at : Option Token → ℕ → ℕ
begins_at None end = end
begins_at (Some token) end = token.from

-- the place of a fault in bytes
pub record StandsAt (IsAt : List Lexeme → ℕ → Type 0) (tokens : List Token) (end at : ℕ) : Type 0 where
  pub place : ℕ
  pub fault : IsAt (lexemes tokens) place
  pub bytes : at ≡ begins_at (slice_get tokens place) end

-- the error says the first fault of the tokens; want of memory can come anywhere
abbrev pub IsFault : List Token → ℕ → ParseError → Type 0
IsFault tokens end (Syntax at) = StandsAt IsSyntaxFault tokens end at
IsFault tokens end (TooDeep at) = StandsAt IsDepthFault tokens end at
IsFault tokens end Memory = Unit {0}
