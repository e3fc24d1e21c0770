-- Files in memory, some of whose reads fail.
use Rattle.std.specs.Prelude.{ℕ, ◌-◌, Bool, not, ◌&&◌, ◌||◌, List, length, min, if◌then◌else◌, Result, Ok, Err}
use Rattle.std.specs.Option.{is_some}
use Rattle.pdw_outside.specs.Calls.{Calls, next_fails, after_call}
use Rattle.pdw_outside.specs.Entries.{content_at, content_of}
use Rattle.pdw_outside.specs.Faults.{counted}
use Rattle.pdw_outside.specs.declared.failed.Failed.{Failed}

-- the files, the calls so far, the most that a read gives, and the faults of the names that are there and of the others
pub record Scripted : Type 0 where
  pub files : List (List ℕ × List ℕ)
  pub calls : Calls
  pub piece : ℕ
  pub known : ℕ
  pub unknown : ℕ

-- whether there is a file of this name
abbrev pub is_known : Scripted → List ℕ → Bool
is_known s name = is_some (content_at s.files name)

-- the faults of a name
abbrev pub faults_of : Scripted → List ℕ → ℕ
faults_of s name = if is_known s name then s.known else s.unknown

-- whether a read of this name fails
abbrev pub read_fails : Scripted → List ℕ → Bool
read_fails s name = next_fails s.calls || not (is_known s name)

-- how many bytes a read from place `at` gives to a buffer of this length
abbrev pub read_answer : Scripted → List ℕ → ℕ → ℕ → Result ℕ Failed
read_answer s name at room =
    if read_fails s name then Err (record {}) else Ok (min s.piece (min room (length (content_of s.files name) - at)))

-- after a read of this name
abbrev pub after_read : Scripted → List ℕ → Scripted
after_read s name = record {
  files = s.files;
  calls = after_call s.calls;
  piece = s.piece;
  known = if is_known s name && next_fails s.calls then counted s.known else s.known;
  unknown = if is_known s name then s.unknown else counted s.unknown;
}
