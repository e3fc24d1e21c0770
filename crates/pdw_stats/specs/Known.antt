-- Which values were seen, while a column is measured.
use Rattle.std.specs.Prelude.{◌≡◌, ℕ, ◌≤◌, Bool, ◌||◌, List}
use Rattle.std.specs.List.{filter, list_any, sum_by}
use Rattle.std.specs.Set.{is_member}
use Rattle.pdw_base.specs.Value.{owned}
use Rattle.pdw_base.specs.declared.value.Value.{Value}
use Rattle.pdw_catalog.specs.Table.{Row}
use Rattle.pdw_stats.specs.Measured.{bytes_of, column_at, is_known, same_value}
use Rattle.pdw_stats.specs.declared.known.Known.{Known}

-- whether a value was seen
abbrev pub has_seen : List Known → Value → Bool
has_seen seen value = list_any (λ known. same_value value (owned known.value)) seen

-- beside those that were seen, these values other than NULL are
abbrev pub Sees : List Known → List Known → List Value → Type 0
Sees old new values = (value : Value) → has_seen new value ≡ (has_seen old value || is_member same_value (filter is_known values) value)

-- no column has more than 10^9 bytes, which are those of a million texts of 1,000 bytes
abbrev pub AreFewBytes : List Row → Type 0
AreFewBytes rows = (place : ℕ) → sum_by bytes_of (column_at place rows) ≤ 1000000000
