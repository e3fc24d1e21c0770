-- A sink in memory, some of whose writes fail.
use Rattle.std.specs.Prelude.{ℕ, List, length, take, min, if◌then◌else◌, Result, Ok, Err}
use Rattle.pdw_outside.specs.Calls.{Calls, next_fails, after_call}
use Rattle.pdw_outside.specs.Faults.{counted}
use Rattle.pdw_outside.specs.Page.{Page, extended}
use Rattle.pdw_outside.specs.declared.failed.Failed.{Failed}

-- the text, the calls so far, the most that a write takes, and how many failed
pub record ScriptedSink : Type 0 where
  pub text : Page
  pub calls : Calls
  pub piece : ℕ
  pub faults : ℕ

-- how many bytes of the piece a write takes
abbrev pub write_answer : ScriptedSink → List ℕ → Result ℕ Failed
write_answer s piece = if next_fails s.calls then Err (record {}) else Ok (min s.piece (length piece))

-- after a write of the piece
abbrev pub after_write : ScriptedSink → List ℕ → ScriptedSink
after_write s piece = record {
  text = if next_fails s.calls then s.text else extended s.text (take (min s.piece (length piece)) piece);
  calls = after_call s.calls;
  piece = s.piece;
  faults = if next_fails s.calls then counted s.faults else s.faults;
}
