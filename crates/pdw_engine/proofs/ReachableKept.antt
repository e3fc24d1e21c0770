-- What every statement keeps of a plain state, so that queries can be planned over it.
use Rattle.std.proofs.Common.{◌≡◌, ◌∙◌, ◌⊎◌, inl, inr, ℕ, ◌≤◌, ◌+◌, Bool, true, false, cond, List, [], ◌∷◌, ◌++◌, length, Option, None, Some, IfSome, if◌then◌else◌, refl, sym, ap, subst, arith}
use Rattle.std.specs.List.{AllByRecursion}
use Rattle.std.specs.Map.{remove_entry}
use Rattle.std.specs.Option.{option_map}
use Rattle.std.specs.Str.{bytes_eq}
use Rattle.std.proofs.lemmas.Bool.{false≢true}
use Rattle.std.proofs.lemmas.List.{length-map}
use Rattle.std.proofs.lemmas.Option.{none-some}
use Rattle.std.proofs.lemmas.Slice.Eq.{bytes_eq-Decides}
use Rattle.pdw_catalog.specs.Appliance.{IsTable}
use Rattle.pdw_catalog.specs.Catalog.{Tables, table_named}
use Rattle.pdw_catalog.specs.Table.{FitsTable, Row, most_rows}
use Rattle.pdw_catalog.specs.declared.table.Table.{Table}
use Rattle.pdw_engine.proofs.JudgedLaws.{CanDo}
use Rattle.pdw_engine.proofs.NameLemmas.{HaveOwnNames-pushed, HaveOwnNames-removed, removed_absent, removed_other}
use Rattle.pdw_engine.proofs.ReachableBooks.{AreInRange-changed, changed, stats_of-changed}
use Rattle.pdw_engine.proofs.ReachableRows.{HoldsRows, HoldsRows-more, HoldsRows-none, HoldsRows-same, IsInRange-held}
use Rattle.pdw_engine.proofs.StateLemmas.{AreAllowed-budget, AreAllowed-constant, AreAllowed-usual, IsInRange-handed}
use Rattle.pdw_engine.specs.Executes.{Does, LoadsContent}
use Rattle.pdw_engine.specs.Names.{HaveOwnNames}
use Rattle.pdw_engine.specs.Plain.{Plain, SamePlain, budget_set, constant_set, measured_in, rows_with, start, stats_with, with_handed, with_measured, with_rows, with_settings, with_table, without_table}
use Rattle.pdw_engine.specs.Settings.{AreAllowed, with_budget, with_constant}
use Rattle.pdw_engine.specs.Statistics.{AreNumbers, Numbers, handed}
use Rattle.pdw_answer.specs.declared.answer.Answer.{Answer}
use Rattle.pdw_engine.specs.declared.settings.Settings.{Settings}
use Rattle.pdw_form.specs.declared.judged.Judged.{Judged}
use Rattle.pdw_form.specs.declared.judged.Judged.TheVariants as judged
use Rattle.pdw_load.proofs.FitLemmas.{records-fit}
use Rattle.pdw_load.specs.Records.{records_of, row_of, rows_of}
use Rattle.pdw_stats.proofs.RangeLemmas.{IsInRange-lookup, IsInRange-usual_stats}
use Rattle.pdw_stats.specs.Book.{AreInRange, Book, stats_of}
use Rattle.pdw_stats.specs.Measured.{measured}
use Rattle.pdw_stats.specs.Stats.{IsInRange, usual_stats}
use Rattle.pdw_stats.specs.declared.stats.Stats.{Stats}
use Rattle.pdw_syntax.specs.declared.statement.Statement.{Statement}
use Rattle.pdw_syntax.specs.declared.statement.Statement.TheVariants as s

-- each table holds its rows
abbrev HoldAll : Tables → (List ℕ → List Row) → Type 0
HoldAll tables rows = (name : List ℕ) (table : Table) → table_named name tables ≡ Some table → HoldsRows table (rows name)

-- some book with all numbers in their ranges tells these statistics
pub record AreTold (stats : List ℕ → Option Stats) : Type 0 where
  pub book : Book
  pub told : (name : List ℕ) → stats_of name book ≡ stats name
  pub ranges : AreInRange book

pub record IsKept (n : ℕ) (state : Plain) : Type 0 where
  pub nodes : state.nodes ≡ n
  pub own : HaveOwnNames state.tables
  pub rows : HoldAll state.tables state.rows
  pub stats : AreTold state.stats
  pub settings : AreAllowed state.settings

-- ---- tables and their rows

-- a table that is found among one more is one of those before, or the new one by its name
pushed_found : (name : List ℕ) (new : Table) (tables : Tables) (other : List ℕ) (table : Table) → table_named other (tables ++ (name, new) ∷ []) ≡ Some table
    → (table_named other tables ≡ Some table) ⊎ ((bytes_eq other name ≡ true) × (Some new ≡ Some table))
pushed_found name new [] other table found = by (bytes_eq other name) refl found
  where
    by : (test : Bool) → bytes_eq other name ≡ test → cond test (Some new) None ≡ Some table → (None ≡ Some table) ⊎ ((bytes_eq other name ≡ true) × (Some new ≡ Some table))
    by true same found = inr (same, found)
    by false apart found = inl found
pushed_found name new (entry ∷ tables) other table found = by (bytes_eq other entry.0) (pushed_found name new tables other table) found
  where
    by : (test : Bool) → (table_named other (tables ++ (name, new) ∷ []) ≡ Some table → (table_named other tables ≡ Some table) ⊎ ((bytes_eq other name ≡ true) × (Some new ≡ Some table)))
        → cond test (Some entry.1) (table_named other (tables ++ (name, new) ∷ [])) ≡ Some table
        → (cond test (Some entry.1) (table_named other tables) ≡ Some table) ⊎ ((bytes_eq other name ≡ true) × (Some new ≡ Some table))
    by true later found = inl found
    by false later found = later found

-- the table of a name is one
one_table : (found table : Table) → Some found ≡ Some table → found ≡ table
one_table found table e = ap (λ (o : Option Table). value o) e
  where
    value : Option Table → Table
    value None = found
    value (Some t) = t

module _ (tables : Tables) (rows : List ℕ → List Row) (all : HoldAll tables rows) where
  created-all : (table : Table) → IsTable table → HoldAll (tables ++ (table.name, table) ∷ []) (rows_with table.name [] rows)
  created-all table shape other t found = by (bytes_eq other table.name) refl (pushed_found table.name table tables other t found)
    where
      by : (test : Bool) → bytes_eq other table.name ≡ test → (table_named other tables ≡ Some t) ⊎ ((bytes_eq other table.name ≡ true) × (Some table ≡ Some t)) → HoldsRows t (if test then [] else rows other)
      by true same (inl before) = HoldsRows-none t (all other t before).shape
      by true same (inr new) = HoldsRows-none t (subst IsTable (one_table table t new.1) shape)
      by false apart (inl before) = all other t before
      by false apart (inr new) = absurd (false≢true (sym apart ∙ new.0))

  dropped-all : (name : List ℕ) → HaveOwnNames tables → HoldAll (remove_entry (bytes_eq name) tables) (rows_with name [] rows)
  dropped-all name own other t found = by (bytes_eq other name) refl
    where
      by : (test : Bool) → bytes_eq other name ≡ test → HoldsRows t (if test then [] else rows other)
      by true same =
          let gone : table_named other (remove_entry (bytes_eq name) tables) ≡ None = subst (λ n. table_named n (remove_entry (bytes_eq name) tables) ≡ None) (sym ((bytes_eq-Decides other name).0 same)) (removed_absent name tables own) in
          absurd (none-some t (sym gone ∙ found))
      by false apart = all other t (sym (removed_other name other tables apart) ∙ found)

  loaded-all : (name : List ℕ) (table : Table) (more : List Row) → table_named name tables ≡ Some table → AllByRecursion (FitsTable table.columns) more
      → length (rows name) + length more ≤ most_rows table.placing → HoldAll tables (rows_with name (rows name ++ more) rows)
  loaded-all name table more there fits room other t found = by (bytes_eq other name) refl
    where
      by : (test : Bool) → bytes_eq other name ≡ test → HoldsRows t (if test then rows name ++ more else rows other)
      by true same =
          let is : Some table ≡ Some t = sym there ∙ ap (λ n. table_named n tables) (sym ((bytes_eq-Decides other name).0 same)) ∙ found in
          subst (λ (it : Table). HoldsRows it (rows name ++ more)) (one_table table t is) (HoldsRows-more table (rows name) more fits room (all name table there))
      by false apart = all other t found

  -- what is measured of a table
  measured-in : (name : List ℕ) → IfSome (option_map (λ (table : Table). measured table.columns (rows name)) (table_named name tables)) IsInRange
  measured-in name = by (table_named name tables) refl
    where
      by : (found : Option Table) → table_named name tables ≡ found → IfSome (option_map (λ (table : Table). measured table.columns (rows name)) found) IsInRange
      by None none = tt
      by (Some table) there = IsInRange-held table (rows name) (all name table there)

-- ---- statistics

AreTold-changed : (stats : List ℕ → Option Stats) (name : List ℕ) (now : Option Stats) → IfSome now IsInRange → AreTold stats → AreTold (stats_with name now stats)
AreTold-changed stats name now range told = record {
  book = changed name now told.book;
  told = λ other. stats_of-changed name now told.book other ∙ ap (λ (had : Option Stats). if bytes_eq name other then now else had) (told.told other);
  ranges = AreInRange-changed name now told.book range told.ranges;
}

handed-in : (stats : List ℕ → Option Stats) (name : List ℕ) (rows : ℕ) (numbers : Numbers) → AreNumbers rows numbers → AreTold stats → IfSome (option_map (handed rows numbers) (stats name)) IsInRange
handed-in stats name rows numbers given told = by (stats name) (subst (λ (had : Option Stats). IfSome had IsInRange) (told.told name) (IsInRange-lookup (bytes_eq name) told.book told.ranges))
  where
    by : (had : Option Stats) → IfSome had IsInRange → IfSome (option_map (handed rows numbers) had) IsInRange
    by None range = tt
    by (Some had) range = IsInRange-handed rows numbers had given range

-- ---- states

module _ (nodes : ℕ) where
  pub IsKept-start : IsKept nodes (start nodes)
  IsKept-start = record {
    nodes = refl;
    own = tt;
    rows = λ name table found. absurd (none-some table found);
    stats = record { book = []; told = λ name. refl; ranges = tt };
    settings = AreAllowed-usual;
  }

  pub IsKept-same : (old new : Plain) → SamePlain old new → IsKept nodes old → IsKept nodes new
  IsKept-same old new same kept = record {
    nodes = same.nodes ∙ kept.nodes;
    own = subst HaveOwnNames (sym same.tables) kept.own;
    rows = λ name table found. HoldsRows-same table (old.rows name) (new.rows name) (same.rows name) (kept.rows name table (ap (table_named name) (sym same.tables) ∙ found));
    stats = record { book = (kept.stats).book; told = λ name. (kept.stats).told name ∙ sym (same.stats name); ranges = (kept.stats).ranges };
    settings = subst AreAllowed (sym same.settings) kept.settings;
  }

  module _ (state : Plain) (kept : IsKept nodes state) where
    kept-created : (table : Table) → table_named table.name state.tables ≡ None → IsTable table → IsKept nodes (with_table table state)
    kept-created table new shape = record {
      nodes = kept.nodes;
      own = HaveOwnNames-pushed table.name table state.tables new kept.own;
      rows = created-all state.tables state.rows kept.rows table shape;
      stats = AreTold-changed state.stats table.name (Some (usual_stats table)) (IsInRange-usual_stats table) kept.stats;
      settings = kept.settings;
    }

    kept-dropped : (name : List ℕ) → IsKept nodes (without_table name state)
    kept-dropped name = record {
      nodes = kept.nodes;
      own = HaveOwnNames-removed name state.tables kept.own;
      rows = dropped-all state.tables state.rows kept.rows name kept.own;
      stats = AreTold-changed state.stats name None tt kept.stats;
      settings = kept.settings;
    }

    kept-loaded : (name content : List ℕ) (answer : Answer) (new : Plain) (loads : LoadsContent state name content answer new) → IsKept nodes (with_rows name (rows_of loads.table (records_of content)) state)
    kept-loaded name content answer new loads = record {
      nodes = kept.nodes;
      own = kept.own;
      rows = loaded-all state.tables state.rows kept.rows name loads.table (rows_of loads.table (records_of content)) loads.there (records-fit loads.table.columns 1 (records_of content) loads.sound)
          (let count = length-map (records_of content) (row_of loads.table.columns) in let room = loads.room in omega arith);
      stats = kept.stats;
      settings = kept.settings;
    }

    -- the statistics of a name change
    kept-stats : (name : List ℕ) (now : Option Stats) → IfSome now IsInRange → IsKept nodes (record state { stats = stats_with name now state.stats })
    kept-stats name now range = record { nodes = kept.nodes; own = kept.own; rows = kept.rows; stats = AreTold-changed state.stats name now range kept.stats; settings = kept.settings }

    kept-settings : (settings : Settings) → AreAllowed settings → IsKept nodes (with_settings settings state)
    kept-settings settings allowed = record { nodes = kept.nodes; own = kept.own; rows = kept.rows; stats = kept.stats; settings = allowed }

  module _ (old new : Plain) (kept : IsKept nodes old) (answer : Answer) where
    kept-load : (name : List ℕ) (content : List ℕ) → LoadsContent old name content answer new → IsKept nodes new
    kept-load name content loads = IsKept-same (with_rows name (rows_of loads.table (records_of content)) old) new loads.gained (kept-loaded old kept name content answer new loads)

    -- whatever a statement does
    pub IsKept-done : (statement : Statement) (work : Judged) (file : Option (List ℕ)) → CanDo old.tables work → Does old statement work file answer new → IsKept nodes new
    IsKept-done statement (judged.Create table) file can does = IsKept-same (with_table table old) new does.1 (kept-created old kept table can.0 can.1)
    IsKept-done statement (judged.Drop name) file can does = IsKept-same (without_table name old) new does.1 (kept-dropped old kept name)
    IsKept-done statement (judged.Load name wanted) None can does = absurd does
    IsKept-done statement (judged.Load name wanted) (Some content) can does = kept-load name content does
    IsKept-done statement (judged.Measure name) file can does = IsKept-same (with_measured name old) new does.1 (kept-stats old kept name (measured_in old name) (measured-in old.tables old.rows kept.rows name))
    IsKept-done statement (judged.Hand name rows cols) file can does =
        IsKept-same (with_handed name rows cols old) new does.1 (kept-stats old kept name (option_map (handed rows cols) (old.stats name)) (handed-in old.stats name rows cols can.1 kept.stats))
    IsKept-done statement (judged.Budget amount) file can does =
        IsKept-same (budget_set amount old) new does.1 (kept-settings old kept (with_budget amount old.settings) (AreAllowed-budget amount old.settings can kept.settings))
    IsKept-done statement (judged.Cost part amount) file can does =
        IsKept-same (constant_set part amount old) new does.1 (kept-settings old kept (with_constant part amount old.settings) (AreAllowed-constant part amount old.settings can kept.settings))
    IsKept-done (s.Select select) (judged.Select form) file can does = IsKept-same old new does.same kept
    IsKept-done _ (judged.Select form) file can does = absurd does
    IsKept-done statement (judged.Explain form) file can does = IsKept-same old new does.2 kept
    IsKept-done statement (judged.ExplainJson form) file can does = IsKept-same old new does.2 kept
    IsKept-done statement (judged.CheckPlan wanted form) None can does = absurd does
    IsKept-done statement (judged.CheckPlan wanted form) (Some content) can does = IsKept-same old new does.same kept
    IsKept-done statement _ file can does = absurd does
