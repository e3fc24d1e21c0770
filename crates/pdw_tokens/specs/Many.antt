-- How a function value reads, again and again.
use Rattle.std.specs.Prelude.{List, Option, Result}
use denote.Ref.{MutBor}
use Rattle.pdw_lex.specs.declared.token.Lexeme.{Lexeme}
use Rattle.pdw_reading.specs.declared.parse_error.Stop.{Stop}
use Rattle.pdw_reading.specs.Reading.{Reader, Reads, many}

-- the function value reads what the reader does
pub record ReadsAs {A : Type 0} (reader : Reader A) (post : MutBor (List Lexeme) → Result A Stop → MutBor (List Lexeme) → Type 0) : Type 0 where
  pub reads : (old new : MutBor (List Lexeme)) (r : Result A Stop) → post old r new → Reads (reader old.now) r new.now

-- what any reader that the function value follows reads again and again
abbrev pub ReadsMany : {A : Type 0} → (MutBor (List Lexeme) → Result (Option A) Stop → MutBor (List Lexeme) → Type 0) → List Lexeme → Result (List A) Stop → List Lexeme → Type 0
ReadsMany {A = A} post old result new = (step : Reader (Option A)) → ReadsAs step post → Reads (many step old) result new
