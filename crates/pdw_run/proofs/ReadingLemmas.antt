-- A script says at most one thing.
use Rattle.std.proofs.Common.{◌≡◌, ℕ, List, length, Some, ap, sym, ◌∙◌, subst}
use Rattle.std.proofs.lemmas.Option.{none-some}
use Rattle.pdw_syntax.specs.declared.statement.Statement.{Statement}
use Rattle.pdw_lex.specs.declared.lex_error.LexError.{LexError}
use Rattle.pdw_lex.specs.declared.lex_error.LexError.TheVariants as lex
use Rattle.pdw_lex.specs.declared.token.Token.{Token}
use Rattle.pdw_lex.proofs.UniqueLemmas.{fault-unique, tokens-faultless, tokens-unique}
use Rattle.pdw_reading.specs.Fault.{IsFault as IsParseFault}
use Rattle.pdw_reading.specs.Spells.{Spells}
use Rattle.pdw_reading.specs.Tokens.{lexemes}
use Rattle.pdw_reading.specs.declared.parse_error.ParseError.{ParseError}
use Rattle.pdw_reading.specs.declared.parse_error.ParseError.TheVariants as parse
use Rattle.pdw_reading.proofs.FaultLemmas.{no_fault, one_fault}
use Rattle.pdw_reading.proofs.PlaceLaws.{one_meaning}
use Rattle.pdw_run.specs.Reading.{HasFault, IsScript, IsTextFault, script_line}
use Rattle.pdw_run.specs.Refusal.{lex_line, parse_line}
use Rattle.pdw_run.specs.declared.reading.ScriptError.{ScriptError}
use Rattle.pdw_run.specs.declared.reading.ScriptError.TheVariants.{Tokens, Statements}

pub IsScript-unique : (script : List ℕ) (some others : List Statement) → IsScript script some → IsScript script others → some ≡ others
IsScript-unique script some others first second =
    let same = tokens-unique 0 script first.tokens second.tokens first.lexed second.lexed in
    let spelled = subst (λ (tokens : List Token). Spells (lexemes tokens) some) same first.spelled in
    one_meaning (lexemes second.tokens) some others spelled.means second.spelled.means

-- a line names no want of memory
named_lex : (e : LexError) (line : List ℕ) → lex_line e ≡ Some line → ¬ (e ≡ lex.Memory)
named_lex e line named none = none-some line (sym (ap lex_line none) ∙ named)

named_parse : (e : ParseError) (line : List ℕ) → parse_line e ≡ Some line → ¬ (e ≡ parse.Memory)
named_parse e line named none = none-some line (sym (ap parse_line none) ∙ named)

same_line : {line other : List ℕ} → Some line ≡ Some other → line ≡ other
same_line e = cc

no_line : (script line : List ℕ) (statements : List Statement) (error : ScriptError) → IsScript script statements → HasFault script error → ¬ (script_line error ≡ Some line)
no_line script line statements (Tokens e) says fault named = named_lex e line named (tokens-faultless script says.tokens e says.utf8 says.lexed fault)
no_line script line statements (Statements e) says fault named =
    let same = tokens-unique 0 script says.tokens fault.tokens says.lexed fault.lexed in
    let spelled = subst (λ (tokens : List Token). Spells (lexemes tokens) statements) same says.spelled in
    named_parse e line named (no_fault fault.tokens (length script) statements e spelled fault.fault)

pub IsScript-faultless : (script line : List ℕ) (statements : List Statement) → IsScript script statements → ¬ (IsTextFault script line)
IsScript-faultless script line statements says at = no_line script line statements at.error says at.fault at.named

lines_same : (script line other : List ℕ) (e f : ScriptError) → HasFault script e → HasFault script f → script_line e ≡ Some line → script_line f ≡ Some other → line ≡ other
lines_same script line other (Tokens e) (Tokens f) first second named called =
    let same = fault-unique script e f first second (named_lex e line named) (named_lex f other called) in
    same_line (sym named ∙ ap lex_line same ∙ called)
lines_same script line other (Tokens e) (Statements f) first second named called =
    absurd (named_lex e line named (tokens-faultless script second.tokens e second.utf8 second.lexed first))
lines_same script line other (Statements e) (Tokens f) first second named called =
    absurd (named_lex f other called (tokens-faultless script first.tokens f first.utf8 first.lexed second))
lines_same script line other (Statements e) (Statements f) first second named called =
    let tokens = tokens-unique 0 script first.tokens second.tokens first.lexed second.lexed in
    let moved = subst (λ (ts : List Token). IsParseFault ts (length script) e) tokens first.fault in
    let same = one_fault second.tokens (length script) e f moved second.fault (named_parse e line named) (named_parse f other called) in
    same_line (sym named ∙ ap parse_line same ∙ called)

pub IsTextFault-unique : (script line other : List ℕ) → IsTextFault script line → IsTextFault script other → line ≡ other
IsTextFault-unique script line other first second = lines_same script line other first.error second.error first.fault second.fault first.named second.named
