-- What a session keeps stays in order.
use Rattle.std.proofs.Common.{◌≡◌, ℕ, ◌+◌, ◌≤◌, ◌==◌, arith, map, Bool, true, false, cond, List, [], ◌∷◌, ◌++◌, None, Some, refl, ap, sym, ◌∙◌, if◌then◌else◌}
use Rattle.std.specs.List.{AllByRecursion, enumerate_from, find}
use Rattle.std.specs.Map.{remove_entry}
use Rattle.std.specs.Option.{option_map, unwrap_or}
use Rattle.std.specs.Str.{bytes_eq}
use Rattle.std.proofs.lemmas.Bool.{false≢true}
use Rattle.std.proofs.lemmas.Slice.Eq.{bytes_eq-Decides}
use Rattle.pdw_catalog.specs.Catalog.{Tables, table_named}
use Rattle.pdw_catalog.specs.declared.table.Table.{Table}
use Rattle.pdw_engine.specs.Settings.{AreAllowed, constants_with, usual_settings, with_budget, with_constant}
use Rattle.pdw_engine.specs.State.{IsOfTables}
use Rattle.pdw_engine.specs.Statistics.{AreNumbers, Numbers, handed, handed_column}
use Rattle.pdw_engine.specs.declared.settings.Settings.{Settings}
use Rattle.pdw_engine.proofs.NameLemmas.{removed_other}
use Rattle.pdw_move.specs.Cost.{AreInRange}
use Rattle.pdw_move.specs.declared.cost.Constants.{Constants}
use Rattle.pdw_stats.specs.Book.{Book, Changes, stats_of}
use Rattle.pdw_stats.specs.Stats.{IsColumnInRange, IsInRange}
use Rattle.pdw_stats.specs.declared.stats.ColStat.{ColStat}
use Rattle.pdw_stats.specs.declared.stats.Stats.{Stats}
use Rattle.pdw_syntax.specs.declared.statement.CostPart.{CostPart}
use Rattle.pdw_syntax.specs.declared.statement.CostPart.TheVariants as part

no_some : {X : Type 0} {x : X} → Some x ≡ None → ⊥
no_some e = cc

-- ---- statistics are those of tables

-- a table more, with statistics
absent_before : (name : List ℕ) (table : Table) (tables : Tables) (other : List ℕ) → table_named other (tables ++ (name, table) ∷ []) ≡ None → (table_named other tables ≡ None) × (bytes_eq other name ≡ false)
absent_before name table [] other absent = (refl, by (bytes_eq other name) refl)
  where
    by : (b : Bool) → bytes_eq other name ≡ b → b ≡ false
    by true same = absurd (no_some (sym (ap (λ t. cond t (Some table) None) same) ∙ absent))
    by false apart = refl
absent_before name table (entry ∷ tables) other absent = by (bytes_eq other entry.0) refl (absent_before name table tables other)
  where
    by : (b : Bool) → bytes_eq other entry.0 ≡ b
        → (table_named other (tables ++ (name, table) ∷ []) ≡ None → (table_named other tables ≡ None) × (bytes_eq other name ≡ false))
        → (cond (bytes_eq other entry.0) (Some entry.1) (table_named other tables) ≡ None) × (bytes_eq other name ≡ false)
    by true same before = absurd (no_some (sym (ap (λ t. cond t (Some entry.1) (table_named other (tables ++ (name, table) ∷ []))) same) ∙ absent))
    by false apart before =
        let rest = before (sym (ap (λ t. cond t (Some entry.1) (table_named other (tables ++ (name, table) ∷ []))) apart) ∙ absent) in
        (ap (λ t. cond t (Some entry.1) (table_named other tables)) apart ∙ rest.0, rest.1)

turned : (a b : List ℕ) → bytes_eq a b ≡ false → bytes_eq b a ≡ false
turned a b e = by (bytes_eq b a) refl
  where
    by : (t : Bool) → bytes_eq b a ≡ t → t ≡ false
    by true same = absurd (false≢true (sym e ∙ (bytes_eq-Decides a b).1 (sym ((bytes_eq-Decides b a).0 same))))
    by false same = refl

pub IsOfTables-created : (tables : Tables) (old new : Book) (name : List ℕ) (table : Table) (stats : Stats) → IsOfTables tables old → Changes old new name (Some stats) → IsOfTables (tables ++ (name, table) ∷ []) new
IsOfTables-created tables old new name table stats known changes other absent =
    let before = absent_before name table tables other absent in
    changes other ∙ ap (λ b. if b then Some stats else stats_of other old) (turned other name before.1) ∙ known other before.0

-- a table less, without its statistics
pub IsOfTables-dropped : (tables : Tables) (old new : Book) (name : List ℕ) → IsOfTables tables old → Changes old new name None → IsOfTables (remove_entry (bytes_eq name) tables) new
IsOfTables-dropped tables old new name known changes other absent = by (bytes_eq name other) refl
  where
    by : (b : Bool) → bytes_eq name other ≡ b → stats_of other new ≡ None
    by true same = changes other ∙ ap (λ b. if b then None else stats_of other old) same
    by false apart =
        changes other ∙ ap (λ b. if b then None else stats_of other old) apart ∙ known other (sym (removed_other name other tables (turned name other apart)) ∙ absent)

-- statistics of a table that is there
pub IsOfTables-changed : (tables : Tables) (old new : Book) (name : List ℕ) (table : Table) (stats : Stats) → table_named name tables ≡ Some table → IsOfTables tables old → Changes old new name (Some stats) → IsOfTables tables new
IsOfTables-changed tables old new name table stats there known changes other absent = by (bytes_eq name other) refl
  where
    by : (b : Bool) → bytes_eq name other ≡ b → stats_of other new ≡ None
    by true same = absurd (no_some (sym there ∙ ap (λ n. table_named n tables) ((bytes_eq-Decides name other).0 same) ∙ absent))
    by false apart = changes other ∙ ap (λ b. if b then Some stats else stats_of other old) apart ∙ known other absent

-- ---- statistics that are handed over are in their ranges

abbrev IsNumbered : ℕ × ℕ × ℕ → Type 0
IsNumbered of = ((1 ≤ of.1) × (of.1 ≤ 1000000000000)) × ((1 ≤ of.2) × (of.2 ≤ 1000))

handed_column-in : (numbers : Numbers) (place : ℕ) (had : ColStat) → AllByRecursion IsNumbered numbers → IsColumnInRange had → IsColumnInRange (handed_column numbers place had)
handed_column-in [] place had all range = range
handed_column-in (of ∷ numbers) place had all range = by (of.0 == place) (handed_column-in numbers place had all.1 range)
  where
    by : (b : Bool) → IsColumnInRange (handed_column numbers place had)
        → IsColumnInRange (unwrap_or (option_map (λ (given : ℕ × ℕ × ℕ). record { distinct = given.1; width = given.2 }) (cond b (Some of) (find (λ (given : ℕ × ℕ × ℕ). given.0 == place) numbers))) had)
    by true rest = record { some_distinct = all.0.0.0; most_distinct = all.0.0.1; some_width = all.0.1.0; most_width = all.0.1.1 }
    by false rest = rest

handed_columns-in : (numbers : Numbers) (first : ℕ) (had : List ColStat) → AllByRecursion IsNumbered numbers → AllByRecursion IsColumnInRange had → AllByRecursion IsColumnInRange (map (λ column. handed_column numbers column.0 column.1) (enumerate_from first had))
handed_columns-in numbers first [] all range = tt
handed_columns-in numbers first (column ∷ had) all range = (handed_column-in numbers first column all range.0, handed_columns-in numbers (first + 1) had all range.1)

pub IsInRange-handed : (rows : ℕ) (numbers : Numbers) (had : Stats) → AreNumbers rows numbers → IsInRange had → IsInRange (handed rows numbers had)
IsInRange-handed rows numbers had given range = record { rows = given.0; cols = handed_columns-in numbers 0 had.cols given.1 range.cols }

-- ---- settings

pub AreAllowed-usual : AreAllowed usual_settings
AreAllowed-usual = record {
  budget = (omega arith, omega arith);
  constants = record {
    reader = (omega arith, omega arith);
    hash_reader = (omega arith, omega arith);
    network = (omega arith, omega arith);
    writer = (omega arith, omega arith);
    bulk = (omega arith, omega arith);
    control = (omega arith, omega arith);
  };
}

pub AreAllowed-budget : (amount : ℕ) (settings : Settings) → (1 ≤ amount) × (amount ≤ 100000) → AreAllowed settings → AreAllowed (with_budget amount settings)
AreAllowed-budget amount settings set allowed = record { budget = set; constants = allowed.constants }

in_range : (which : CostPart) (amount : ℕ) (constants : Constants) → (1 ≤ amount) × (amount ≤ 1000) → AreInRange constants → AreInRange (constants_with which amount constants)
in_range part.Reader amount constants set range = record { reader = set; hash_reader = range.hash_reader; network = range.network; writer = range.writer; bulk = range.bulk; control = range.control }
in_range part.HashReader amount constants set range = record { reader = range.reader; hash_reader = set; network = range.network; writer = range.writer; bulk = range.bulk; control = range.control }
in_range part.Network amount constants set range = record { reader = range.reader; hash_reader = range.hash_reader; network = set; writer = range.writer; bulk = range.bulk; control = range.control }
in_range part.Writer amount constants set range = record { reader = range.reader; hash_reader = range.hash_reader; network = range.network; writer = set; bulk = range.bulk; control = range.control }
in_range part.Bulk amount constants set range = record { reader = range.reader; hash_reader = range.hash_reader; network = range.network; writer = range.writer; bulk = set; control = range.control }
in_range part.Control amount constants set range = record { reader = range.reader; hash_reader = range.hash_reader; network = range.network; writer = range.writer; bulk = range.bulk; control = set }

pub AreAllowed-constant : (which : CostPart) (amount : ℕ) (settings : Settings) → (1 ≤ amount) × (amount ≤ 1000) → AreAllowed settings → AreAllowed (with_constant which amount settings)
AreAllowed-constant which amount settings set allowed = record { budget = allowed.budget; constants = in_range which amount settings.constants set allowed.constants }
