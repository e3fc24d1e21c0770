-- What a reading owes to its rule.
use Rattle.std.proofs.Common.{◌≡◌, ℕ, ◌+◌, ◌≤◌, Bool, true, false, List, [], ◌∷◌, ◌++◌, Option, Some, None}
use Rattle.pdw_lex.specs.declared.sign.Sign.TheVariants.{ParenOpen}
use Rattle.pdw_lex.specs.declared.token.Lexeme.{Lexeme}
use Rattle.pdw_lex.specs.declared.token.Lexeme.TheVariants.{Sign}
use Rattle.pdw_syntax.specs.Rule.{Rule, Maybe}
use Rattle.pdw_reading.specs.Depth.{open_past}
use Rattle.pdw_reading.specs.Reading.{Outcome, read, stopped, Reader, next}
use Rattle.pdw_reading.specs.declared.parse_error.Stop.TheVariants.{Memory, Syntax, TooDeep}

-- ---- how many parentheses are open

abbrev pub open_from : ℕ → List Lexeme → ℕ
open_from d [] = d
open_from d (l ∷ ls) = open_from (open_past d l) ls

-- from so many open ones on, never more than the limit are open
abbrev pub Within : ℕ → ℕ → List Lexeme → Type 0
Within limit d [] = d ≤ limit
Within limit d (l ∷ ls) = (d ≤ limit) × Within limit (open_past d l) ls

-- what is opened is closed again, and at most so many are open meanwhile
pub record Balanced (n : ℕ) (w : List Lexeme) : Type 0 where
  pub back : (d : ℕ) → open_from d w ≡ d
  pub within : (d : ℕ) → Within (d + n) d w

-- ---- what an outcome tells. R is the rule at a level, and S the rule at the level above it.

-- some text of the rule begins so
pub record Begins {A : Type 0} (R : List Lexeme → A → Type 0) (w : List Lexeme) : Type 0 where
  pub more : List Lexeme
  pub means : A
  pub spells : R (w ++ more) means

pub record TellsRead {A : Type 0} (R : List Lexeme → A → Type 0) (r : List Lexeme → Outcome A) (ts : List Lexeme) (a : A) (rest : List Lexeme) : Type 0 where
  pub front : List Lexeme
  pub whole : ts ≡ front ++ rest
  pub spells : R front a
  pub alike : (other : List Lexeme) → next rest ≡ next other → r (front ++ other) ≡ read a other

pub record TellsSyntax {A : Type 0} (n : ℕ) (S : List Lexeme → A → Type 0) (r : List Lexeme → Outcome A) (ts rest : List Lexeme) : Type 0 where
  pub front : List Lexeme
  pub whole : ts ≡ front ++ rest
  pub begins : Begins S front
  pub within : (d : ℕ) → Within (d + n) d front
  pub alike : (other : List Lexeme) → next rest ≡ next other → r (front ++ other) ≡ stopped Syntax other

pub record TellsTooDeep {A : Type 0} (n : ℕ) (S : List Lexeme → A → Type 0) (ts rest : List Lexeme) : Type 0 where
  pub front : List Lexeme
  pub whole : ts ≡ front ++ rest
  pub opens : next rest ≡ Some (Sign ParenOpen)
  pub begins : Begins S (front ++ Sign ParenOpen ∷ [])
  pub within : (d : ℕ) → Within (d + n) d front
  pub deep : (d : ℕ) → open_from d front ≡ d + n

abbrev pub Tells : {A : Type 0} → ℕ → Rule A → Rule A → Reader A → List Lexeme → Outcome A → Type 0
Tells n R S r ts (read a rest) = TellsRead R r ts a rest
Tells n R S r ts (stopped Syntax rest) = TellsSyntax n S r ts rest
Tells n R S r ts (stopped TooDeep rest) = TellsTooDeep n S ts rest
Tells n R S r ts (stopped Memory rest) = ⊥

-- a reading with more levels gives the same, unless a parenthesis was one too many
abbrev pub Above : {A : Type 0} → Outcome A → Outcome A → Type 0
Above (read a rest) o = o ≡ read a rest
Above (stopped Syntax rest) o = o ≡ stopped Syntax rest
Above (stopped why rest) o = Unit {0}

pub record Inhabited {A : Type 0} (R : List Lexeme → A → Type 0) : Type 0 where
  pub text : List Lexeme
  pub means : A
  pub spells : R text means

-- The reading r reads the rule R at level n; q and S are those at the level above. What may follow a text is told by stops.
pub record Lawful {A : Type 0} (n : ℕ) (R S : List Lexeme → A → Type 0) (r q : List Lexeme → Outcome A) (stops : Option Lexeme → Bool) : Type 0 where
  pub tells : (ts : List Lexeme) → Tells n R S r ts (r ts)
  pub again : (w : List Lexeme) (a : A) (rest : List Lexeme) → R w a → stops (next rest) ≡ true → r (w ++ rest) ≡ read a rest
  pub wider : (w : List Lexeme) (a : A) → R w a → S w a
  pub balanced : (w : List Lexeme) (a : A) → R w a → Balanced n w
  pub above : (ts : List Lexeme) → Above (r ts) (q ts)
  pub some : Inhabited S

-- The same for the next text of a rule, if it comes: starts tells which lexemes begin one, ends what may follow one.
pub record LawfulStep {A : Type 0} (n : ℕ) (R S : List Lexeme → A → Type 0) (r q : List Lexeme → Outcome (Option A)) (ends starts : Option Lexeme → Bool) : Type 0 where
  pub tells : (ts : List Lexeme) → Tells n (Maybe R) (Maybe S) r ts (r ts)
  pub present : (w : List Lexeme) (a : A) (rest : List Lexeme) → R w a → ends (next rest) ≡ true → r (w ++ rest) ≡ read (Some a) rest
  pub absent : (rest : List Lexeme) → starts (next rest) ≡ false → r rest ≡ read None rest
  pub starts_with : (w : List Lexeme) (a : A) → R w a → starts (next w) ≡ true
  pub ends_none : starts None ≡ false
  pub wider : (w : List Lexeme) (a : A) → R w a → S w a
  pub balanced : (w : List Lexeme) (a : A) → R w a → Balanced n w
  pub above : (ts : List Lexeme) → Above (r ts) (q ts)

-- The same where this lexeme, or the end, comes next.
pub record LawfulAt {A : Type 0} (o : Option Lexeme) (n : ℕ) (R S : List Lexeme → A → Type 0) (r q : List Lexeme → Outcome A) (stops : Option Lexeme → Bool) : Type 0 where
  pub tells : (ts : List Lexeme) → next ts ≡ o → Tells n R S r ts (r ts)
  pub again : (w : List Lexeme) (a : A) (rest : List Lexeme) → next (w ++ rest) ≡ o → R w a → stops (next rest) ≡ true → r (w ++ rest) ≡ read a rest
  pub above : (ts : List Lexeme) → next ts ≡ o → Above (r ts) (q ts)
