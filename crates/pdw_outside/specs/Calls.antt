-- Calls that are numbered from 1, some of which are to fail.
use Rattle.std.specs.Prelude.{ℕ, ◌==◌, Bool, List}
use Rattle.std.specs.List.{list_any}
use Rattle.pdw_outside.specs.Faults.{counted}

-- how many were made, up to the last value of a count, and the numbers of those that fail
pub record Calls : Type 0 where
  pub made : ℕ
  pub fails : List ℕ

-- whether the next call fails
abbrev pub next_fails : Calls → Bool
next_fails calls = list_any (λ number. number == counted calls.made) calls.fails

-- after one more call
abbrev pub after_call : Calls → Calls
after_call calls = record { made = counted calls.made; fails = calls.fails }
