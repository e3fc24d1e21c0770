-- A loop that reads texts one after the other.
use Rattle.std.proofs.Common.{◌≡◌, ℕ, suc, ◌+◌, ◌-◌, ◌<◌, ◌≤◌, List, [], ◌∷◌, ◌++◌, Option, Some, None, ap, ◌∙◌, arith}
use Rattle.pdw_lex.specs.declared.token.Lexeme.{Lexeme}
use Rattle.pdw_reading.specs.Reading.{Outcome, read, stopped, many_from, and_then, turn}
use Rattle.pdw_reading.specs.declared.parse_error.Stop.{Stop}

-- what the loop is to give is what its turns that are left give
pub record Left {A : Type 0} (step : List Lexeme → Outcome (Option A)) (whole : Outcome (List A)) (n at : ℕ) (found : List A) (ts : List Lexeme) : Type 0 where
  pub same : whole ≡ many_from step (n - at) found ts

more : {A : Type 0} {step : List Lexeme → Outcome (Option A)} {whole : Outcome (List A)} {n at : ℕ} {found : List A} {ts : List Lexeme}
    → Left step whole n at found ts → at < n → whole ≡ and_then (step ts) (turn found (many_from step (n - (at + 1))))
more {step = step} {n = n} {at = at} {found = found} {ts = ts} left below =
    let one : n - at ≡ suc (n - (at + 1)) = omega arith in left.same ∙ ap (λ k. many_from step k found ts) one

pub goes_on : {A : Type 0} {step : List Lexeme → Outcome (Option A)} {whole : Outcome (List A)} {n at : ℕ} {found : List A} {ts rest : List Lexeme} {a : A}
    → Left step whole n at found ts → at < n → step ts ≡ read (Some a) rest → Left step whole n (at + 1) (found ++ a ∷ []) rest
goes_on {step = step} {n = n} {at = at} {found = found} left below is =
    record { same = more left below ∙ ap (λ o. and_then o (turn found (many_from step (n - (at + 1))))) is }

pub ends : {A : Type 0} {step : List Lexeme → Outcome (Option A)} {whole : Outcome (List A)} {n at : ℕ} {found : List A} {ts rest : List Lexeme}
    → Left step whole n at found ts → at < n → step ts ≡ read None rest → whole ≡ read found rest
ends {step = step} {n = n} {at = at} {found = found} left below is = more left below ∙ ap (λ o. and_then o (turn found (many_from step (n - (at + 1))))) is

pub stops : {A : Type 0} {step : List Lexeme → Outcome (Option A)} {whole : Outcome (List A)} {n at : ℕ} {found : List A} {ts rest : List Lexeme} {why : Stop}
    → Left step whole n at found ts → at < n → step ts ≡ stopped why rest → whole ≡ stopped why rest
stops {step = step} {n = n} {at = at} {found = found} left below is = more left below ∙ ap (λ o. and_then o (turn found (many_from step (n - (at + 1))))) is

pub runs_out : {A : Type 0} {step : List Lexeme → Outcome (Option A)} {whole : Outcome (List A)} {n at : ℕ} {found : List A} {ts : List Lexeme}
    → Left step whole n at found ts → n ≤ at → whole ≡ read found ts
runs_out {step = step} {n = n} {at = at} {found = found} {ts = ts} left done =
    let none : n - at ≡ 0 = omega arith in left.same ∙ ap (λ k. many_from step k found ts) none

pub ruleset turns = (goes_on, ends, stops, runs_out)
