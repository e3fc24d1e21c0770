-- A text that is kept as far as there is room for it.
use Rattle.std.specs.Prelude.{ℕ, ◌+◌, ◌-◌, ◌==◌, List, ◌++◌, length, take, min, Option, Some, None, if◌then◌else◌}
use Rattle.pdw_outside.specs.Faults.{last_count}

-- the first `room` bytes that were written, and how many came after them, up to the last value of a count
pub record Page : Type 0 where
  pub kept : List ℕ
  pub room : ℕ
  pub lost : ℕ

-- how many more bytes are kept
abbrev pub free : Page → ℕ
free page = page.room - length page.kept

-- a text with this piece behind it
abbrev pub extended : Page → List ℕ → Page
extended page piece = record {
  kept = page.kept ++ take (free page) piece;
  room = page.room;
  lost = min (page.lost + (length piece - free page)) last_count;
}

-- the text, as long as all of it is kept
abbrev pub told : Page → Option (List ℕ)
told page = if page.lost == 0 then Some page.kept else None
