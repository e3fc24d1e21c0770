-- Counts of calls that failed, in 64 bits.
use Rattle.std.specs.Prelude.{ℕ, ◌+◌, ◌-◌, ◌^◌, ◌≤◌, min}

-- the last value of a count, where it stands still
abbrev pub last_count : ℕ
last_count = 2 ^ 64 - 1

-- the count after one more
abbrev pub counted : ℕ → ℕ
counted before = min (before + 1) last_count

-- a count rose, or stands still at its last value
abbrev pub Rose : ℕ → ℕ → Type 0
Rose before now = counted before ≤ now
