-- A file that is read whole.
use Rattle.std.specs.Prelude.{◌≡◌, ◌<◌, ℕ, List, ◌++◌, length, drop, Option, Some, None, Result, Ok, Err, codes}
use Rattle.pdw_outside.specs.declared.reading.ReadStop.{ReadStop}
use Rattle.pdw_outside.specs.declared.reading.ReadStop.TheVariants.{Failed, TooLong, Memory}

-- the content is this list, where it is told
abbrev pub IsContent : Option (List ℕ) → List ℕ → Type 0
IsContent None found = Unit {0}
IsContent (Some content) found = found ≡ content

-- the content has more bytes than this
abbrev pub IsLongerThan : ℕ → Option (List ℕ) → Type 0
IsLongerThan limit told = (content : List ℕ) × IsContent told content × (limit < length content)

-- no count changed, unless a call failed
abbrev pub SameUnlessFailed : {T C : Type 0} → Result T ReadStop → C → C → Type 0
SameUnlessFailed (Ok found) before now = now ≡ before
SameUnlessFailed (Err Failed) before now = Unit {0}
SameUnlessFailed (Err TooLong) before now = now ≡ before
SameUnlessFailed (Err Memory) before now = now ≡ before

-- the content starts with these bytes, where it is told
abbrev pub IsStart : Option (List ℕ) → List ℕ → Type 0
IsStart None taken = Unit {0}
IsStart (Some content) taken = taken ++ drop (length taken) content ≡ content

-- why a file was not read whole, in words
abbrev pub stop_text : ReadStop → List ℕ
stop_text Failed = codes "the file cannot be read"
stop_text TooLong = codes "the file is too long"
stop_text Memory = codes "out of memory"
