-- What the bytes of a script say: its statements, or its first fault.
use Rattle.std.specs.Prelude.{◌≡◌, ℕ, List, length, Option, Some}
use Rattle.std.specs.Str.{IsUtf8}
use Rattle.pdw_syntax.specs.declared.statement.Statement.{Statement}
use Rattle.pdw_lex.specs.Lexes.{Lexes}
use Rattle.pdw_lex.specs.Fault.{IsFault as IsLexFault}
use Rattle.pdw_lex.specs.declared.token.Token.{Token}
use Rattle.pdw_reading.specs.Fault.{IsFault as IsParseFault}
use Rattle.pdw_reading.specs.Spells.{Spells}
use Rattle.pdw_reading.specs.Tokens.{lexemes}
use Rattle.pdw_reading.specs.declared.parse_error.ParseError.{ParseError}
use Rattle.pdw_run.specs.Refusal.{lex_line, parse_line}
use Rattle.pdw_run.specs.declared.reading.ScriptError.{ScriptError}
use Rattle.pdw_run.specs.declared.reading.ScriptError.TheVariants.{Tokens, Statements}

-- the bytes are in UTF-8 and have tokens, and what these say are the statements
pub record IsScript (script : List ℕ) (statements : List Statement) : Type 0 where
  pub tokens : List Token
  pub utf8 : IsUtf8 script
  pub lexed : Lexes 0 script tokens
  pub spelled : Spells (lexemes tokens) statements

-- the bytes have tokens, and the error says the first fault of these
pub record HasParseFault (script : List ℕ) (error : ParseError) : Type 0 where
  pub tokens : List Token
  pub utf8 : IsUtf8 script
  pub lexed : Lexes 0 script tokens
  pub fault : IsParseFault tokens (length script) error

-- the error says the first fault of the bytes, or of their tokens where they have tokens; or memory was wanted
abbrev pub HasFault : List ℕ → ScriptError → Type 0
HasFault script (Tokens error) = IsLexFault script error
HasFault script (Statements error) = HasParseFault script error

-- the line that names the fault; want of memory is none
abbrev pub script_line : ScriptError → Option (List ℕ)
script_line (Tokens error) = lex_line error
script_line (Statements error) = parse_line error

-- this line names the first fault of the script's text
pub record IsTextFault (script line : List ℕ) : Type 0 where
  pub error : ScriptError
  pub fault : HasFault script error
  pub named : script_line error ≡ Some line
