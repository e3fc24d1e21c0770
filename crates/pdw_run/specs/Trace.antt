-- What a run leaves outside.
use Rattle.std.specs.Prelude.{ℕ, List, [], ◌++◌, take}

-- the bytes that it writes
pub record Trace : Type 0 where
  pub text : List ℕ

abbrev pub nothing : Trace
nothing = record { text = [] }

abbrev pub prints : List ℕ → Trace
prints text = record { text = text }

-- one after the other
abbrev pub followed_by : Trace → Trace → Trace
followed_by first rest = record { text = first.text ++ rest.text }

-- with the first bytes of its text alone
abbrev pub cut_at : ℕ → Trace → Trace
cut_at count trace = record trace { text = take count trace.text }
