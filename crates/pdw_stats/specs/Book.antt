-- The statistics of tables by their names.
use Rattle.std.specs.Prelude.{◌≡◌, ℕ, List, Option, if◌then◌else◌}
use Rattle.std.specs.List.{AllByRecursion}
use Rattle.std.specs.Map.{lookup, remove_entry}
use Rattle.std.specs.Str.{bytes_eq}
use Rattle.indexmap.specs.IndexMap.{insert_entry}
use Rattle.pdw_stats.specs.Stats.{IsInRange}
use Rattle.pdw_stats.specs.declared.stats.Stats.{Stats}

abbrev pub Book : Type 0
Book = List (List ℕ × Stats)

-- the statistics of the table of a name
abbrev pub stats_of : List ℕ → Book → Option Stats
stats_of name book = lookup (bytes_eq name) book

-- all statistics are in the ranges of the limits
abbrev pub AreInRange : Book → Type 0
AreInRange book = AllByRecursion (λ entry. IsInRange entry.1) book

-- the book has these statistics of a table, or none, and of each other table those that it had
abbrev pub Changes : Book → Book → List ℕ → Option Stats → Type 0
Changes old new name now = (other : List ℕ) → stats_of other new ≡ (if bytes_eq name other then now else stats_of other old)

-- ---- as the book keeps them

-- with these statistics of a table, in place of those that it had, or last
abbrev pub with_stats : List ℕ → Stats → Book → Book
with_stats name stats book = insert_entry bytes_eq book name stats

-- without those of a table
abbrev pub without_stats : List ℕ → Book → Book
without_stats name book = remove_entry (bytes_eq name) book
