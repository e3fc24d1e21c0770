-- Statistics stay in their ranges, in the book too.
use Rattle.std.proofs.Common.{ℕ, Bool, true, false, cond, List, [], ◌∷◌, map, Option, None, Some, IfSome, Bor, arith, if◌then◌else◌}
use Rattle.std.specs.List.{AllByRecursion}
use Rattle.std.specs.Map.{lookup, remove_entry}
use Rattle.std.specs.Option.{option_copied}
use Rattle.std.specs.Str.{bytes_eq}
use Rattle.indexmap.specs.IndexMap.{insert_entry}
use Rattle.pdw_base.specs.declared.value.Kind.{Kind}
use Rattle.pdw_base.specs.declared.value.Kind.TheVariants as kind
use Rattle.pdw_catalog.specs.declared.table.Column.{Column}
use Rattle.pdw_catalog.specs.declared.table.Table.{Table}
use Rattle.pdw_stats.specs.Book.{AreInRange, Book}
use Rattle.pdw_stats.specs.Stats.{IsColumnInRange, IsInRange, usual_stats, usual_width}
use Rattle.pdw_stats.specs.declared.stats.ColStat.{ColStat}
use Rattle.pdw_stats.specs.declared.stats.Stats.{Stats}

-- ---- a table of which nothing is known

abbrev usual_column : Column → ColStat
usual_column column = record { distinct = 100; width = usual_width column.kind }

in_range : (k : Kind) → IsColumnInRange (record { distinct = 100; width = usual_width k })
in_range kind.Int = record { some_distinct = omega arith; most_distinct = omega arith; some_width = omega arith; most_width = omega arith }
in_range kind.Text = record { some_distinct = omega arith; most_distinct = omega arith; some_width = omega arith; most_width = omega arith }
in_range kind.Wide = record { some_distinct = omega arith; most_distinct = omega arith; some_width = omega arith; most_width = omega arith }

all_in_range : (columns : List Column) → AllByRecursion IsColumnInRange (map usual_column columns)
all_in_range [] = tt
all_in_range (column ∷ columns) = (in_range column.kind, all_in_range columns)

pub IsInRange-usual_stats : (table : Table) → IsInRange (usual_stats table)
IsInRange-usual_stats table = record { rows = omega arith; cols = all_in_range table.columns }

-- ---- the book

pub AreInRange-insert_entry : (book : Book) (name : List ℕ) (stats : Stats) → AreInRange book → IsInRange stats → AreInRange (insert_entry bytes_eq book name stats)
AreInRange-insert_entry [] name stats old new = (new, tt)
AreInRange-insert_entry (entry ∷ book) name stats old new = by (bytes_eq name entry.0) (AreInRange-insert_entry book name stats old.1 new)
  where
    by : (b : Bool) → AreInRange (insert_entry bytes_eq book name stats) → AreInRange (if b then (entry.0, stats) ∷ book else entry ∷ insert_entry bytes_eq book name stats)
    by true rest = (new, old.1)
    by false rest = (old.0, rest)

pub AreInRange-remove_entry : (test : List ℕ → Bool) (book : Book) → AreInRange book → AreInRange (remove_entry test book)
AreInRange-remove_entry test [] old = tt
AreInRange-remove_entry test (entry ∷ book) old = by (test entry.0) (AreInRange-remove_entry test book old.1)
  where
    by : (b : Bool) → AreInRange (remove_entry test book) → AreInRange (cond b book (entry ∷ remove_entry test book))
    by true rest = old.1
    by false rest = (old.0, rest)

pub IsInRange-lookup : (test : List ℕ → Bool) (book : Book) → AreInRange book → IfSome (lookup test book) IsInRange
IsInRange-lookup test [] old = tt
IsInRange-lookup test (entry ∷ book) old = by (test entry.0) (IsInRange-lookup test book old.1)
  where
    by : (b : Bool) → IfSome (lookup test book) IsInRange → IfSome (cond b (Some entry.1) (lookup test book)) IsInRange
    by true rest = old.0
    by false rest = rest

pub IfSome-copied : (found : Option (Bor Stats)) → IfSome (option_copied found) IsInRange → IfSome found (λ stats. IsInRange stats.now)
IfSome-copied None range = tt
IfSome-copied (Some stats) range = range
