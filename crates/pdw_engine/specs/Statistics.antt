-- Statistics that are handed over: UPDATE STATISTICS with numbers.
use Rattle.std.specs.Prelude.{ℕ, ◌≤◌, ◌==◌, List, map}
use Rattle.std.specs.List.{AllByRecursion, enumerate_from, find}
use Rattle.std.specs.Option.{option_map, unwrap_or}
use Rattle.pdw_stats.specs.declared.stats.ColStat.{ColStat}
use Rattle.pdw_stats.specs.declared.stats.Stats.{Stats}

-- by the column's place, counted from 0: how many different values it has, and its width
abbrev pub Numbers : Type 0
Numbers = List (ℕ × ℕ × ℕ)

-- up to 10^12 rows, 1 to 10^12 different values, and 1 to 1,000 bytes
abbrev pub AreNumbers : ℕ → Numbers → Type 0
AreNumbers rows numbers = (rows ≤ 1000000000000) × AllByRecursion (λ (of : ℕ × ℕ × ℕ). ((1 ≤ of.1) × (of.1 ≤ 1000000000000)) × ((1 ≤ of.2) × (of.2 ≤ 1000))) numbers

-- a column has the numbers that are handed over for its place, or else those that it had
abbrev pub handed_column : Numbers → ℕ → ColStat → ColStat
handed_column numbers place had = unwrap_or (option_map (λ (given : ℕ × ℕ × ℕ). record { distinct = given.1; width = given.2 }) (find (λ (given : ℕ × ℕ × ℕ). given.0 == place) numbers)) had

-- a table has so many rows, and its columns have these numbers
abbrev pub handed : ℕ → Numbers → Stats → Stats
handed rows numbers had = record { rows = rows; cols = map (λ column. handed_column numbers column.0 column.1) (enumerate_from 0 had.cols) }
