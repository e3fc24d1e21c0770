-- Statements leave the same plain states from the same plain states.
use Rattle.std.proofs.Common.{◌≡◌, ℕ, Bool, true, false, List, [], ◌∷◌, ◌++◌, refl, sym, ap, subst, ◌∙◌, Option, Some, None, if◌then◌else◌}
use Rattle.std.specs.Option.{option_map}
use Rattle.std.specs.Str.{bytes_eq}
use Rattle.pdw_base.proofs.SameBagLaws.{SameBag-append, SameBag-refl, SameBag-sym, SameBag-trans}
use Rattle.pdw_base.specs.SameBag.{SameBag}
use Rattle.pdw_catalog.specs.Catalog.{table_named}
use Rattle.pdw_catalog.specs.Table.{Row}
use Rattle.pdw_catalog.specs.declared.table.Table.{Table}
use Rattle.pdw_engine.specs.Executes.{Does, LoadsContent}
use Rattle.pdw_engine.specs.Plain.{Plain, SamePlain, measured_in, rows_with, stats_with, with_rows, with_settings, with_table, without_table}
use Rattle.pdw_engine.specs.Settings.{with_budget, with_constant}
use Rattle.pdw_engine.specs.Statistics.{Numbers, handed}
use Rattle.pdw_engine.specs.declared.settings.Settings.{Settings}
use Rattle.pdw_answer.specs.declared.answer.Answer.{Answer}
use Rattle.pdw_form.specs.declared.judged.Judged.{Judged}
use Rattle.pdw_form.specs.declared.judged.Judged.TheVariants as judged
use Rattle.pdw_load.specs.Records.{records_of, rows_of}
use Rattle.pdw_stats.proofs.MeasuredLemmas.{measured-SameBag}
use Rattle.pdw_stats.specs.Measured.{measured}
use Rattle.pdw_stats.specs.Stats.{usual_stats}
use Rattle.pdw_stats.specs.declared.stats.Stats.{Stats}
use Rattle.pdw_syntax.specs.declared.statement.Statement.{Statement}
use Rattle.pdw_syntax.specs.declared.statement.Statement.TheVariants as s

pub SamePlain-sym : (some other : Plain) → SamePlain some other → SamePlain other some
SamePlain-sym some other same = record {
  nodes = sym same.nodes;
  tables = sym same.tables;
  rows = λ name. SameBag-sym (same.rows name);
  stats = λ name. sym (same.stats name);
  settings = sym same.settings;
}

pub SamePlain-trans : (one two three : Plain) → SamePlain one two → SamePlain two three → SamePlain one three
SamePlain-trans one two three first second = record {
  nodes = second.nodes ∙ first.nodes;
  tables = second.tables ∙ first.tables;
  rows = λ name. SameBag-trans (second.rows name) (first.rows name);
  stats = λ name. second.stats name ∙ first.stats name;
  settings = second.settings ∙ first.settings;
}

-- ---- the same change of the same states

rows_with-same : (name : List ℕ) (one two : List Row) (some other : List ℕ → List Row) → SameBag two one → ((n : List ℕ) → SameBag (other n) (some n))
    → (n : List ℕ) → SameBag (rows_with name two other n) (rows_with name one some n)
rows_with-same name one two some other changed same n = by (bytes_eq n name)
  where
    by : (b : Bool) → SameBag (if b then two else other n) (if b then one else some n)
    by true = changed
    by false = same n

stats_with-same : (name : List ℕ) (one two : Option Stats) (some other : List ℕ → Option Stats) → two ≡ one → ((n : List ℕ) → other n ≡ some n)
    → (n : List ℕ) → stats_with name two other n ≡ stats_with name one some n
stats_with-same name one two some other changed same n = by (bytes_eq name n)
  where
    by : (b : Bool) → (if b then two else other n) ≡ (if b then one else some n)
    by true = changed
    by false = same n

module _ (some other : Plain) (same : SamePlain some other) where
  with_table-same : (table : Table) → SamePlain (with_table table some) (with_table table other)
  with_table-same table = record {
    nodes = same.nodes;
    tables = ap (λ tables. tables ++ (table.name, table) ∷ []) same.tables;
    rows = rows_with-same table.name [] [] some.rows other.rows (SameBag-refl []) same.rows;
    stats = stats_with-same table.name (Some (usual_stats table)) (Some (usual_stats table)) some.stats other.stats refl same.stats;
    settings = same.settings;
  }

  without_table-same : (name : List ℕ) → SamePlain (without_table name some) (without_table name other)
  without_table-same name = record {
    nodes = same.nodes;
    tables = ap (λ tables. (without_table name (record some { tables = tables })).tables) same.tables;
    rows = rows_with-same name [] [] some.rows other.rows (SameBag-refl []) same.rows;
    stats = stats_with-same name None None some.stats other.stats refl same.stats;
    settings = same.settings;
  }

  with_rows-same : (name : List ℕ) (more : List Row) → SamePlain (with_rows name more some) (with_rows name more other)
  with_rows-same name more = record {
    nodes = same.nodes;
    tables = same.tables;
    rows = rows_with-same name (some.rows name ++ more) (other.rows name ++ more) some.rows other.rows (SameBag-append (same.rows name) (SameBag-refl more)) same.rows;
    stats = same.stats;
    settings = same.settings;
  }

  -- statistics that are the same change the same states
  with_stats-same : (name : List ℕ) (one two : Option Stats) → two ≡ one
      → SamePlain (record some { stats = stats_with name one some.stats }) (record other { stats = stats_with name two other.stats })
  with_stats-same name one two changed = record {
    nodes = same.nodes;
    tables = same.tables;
    rows = same.rows;
    stats = stats_with-same name one two some.stats other.stats changed same.stats;
    settings = same.settings;
  }

  -- equal bags are measured to be the same
  same_measures : (name : List ℕ) → measured_in other name ≡ measured_in some name
  same_measures name = ap (λ tables. measured_in (record other { tables = tables }) name) same.tables ∙ by (table_named name some.tables)
    where
      by : (found : Option Table) → option_map (λ (table : Table). measured table.columns (other.rows name)) found ≡ option_map (λ (table : Table). measured table.columns (some.rows name)) found
      by None = refl
      by (Some table) = ap Some (measured-SameBag table.columns (other.rows name) (some.rows name) (same.rows name))

  same_hands : (name : List ℕ) (rows : ℕ) (numbers : Numbers) → option_map (handed rows numbers) (other.stats name) ≡ option_map (handed rows numbers) (some.stats name)
  same_hands name rows numbers = ap (option_map (handed rows numbers)) (same.stats name)

  with_settings-same : (one two : Settings) → two ≡ one → SamePlain (with_settings one some) (with_settings two other)
  with_settings-same one two changed = record { nodes = same.nodes; tables = same.tables; rows = same.rows; stats = same.stats; settings = changed }

  -- between two changes there is what is done with the states
  between : (one two left right : Plain) → SamePlain one two → SamePlain one left → SamePlain two right → SamePlain left right
  between one two left right middle first second =
      SamePlain-trans left two right (SamePlain-trans left one two (SamePlain-sym one left first) middle) second

  one_table : (name : List ℕ) (found table : Table) → table_named name some.tables ≡ Some found → table_named name other.tables ≡ Some table → found ≡ table
  one_table name found table first second = out (sym first ∙ ap (table_named name) (sym same.tables) ∙ second)
    where
      out : Some found ≡ Some table → found ≡ table
      out e = ap (λ (o : Option Table). value found o) e
        where
          value : Table → Option Table → Table
          value otherwise None = otherwise
          value otherwise (Some t) = t

  module _ (statement : Statement) (one two : Answer) (left right : Plain) where
    loads_same : (name content : List ℕ) → LoadsContent some name content one left → LoadsContent other name content two right → SamePlain left right
    loads_same name content first second =
        let found = one_table name first.table second.table first.there second.there in
        between (with_rows name (rows_of first.table (records_of content)) some) (with_rows name (rows_of second.table (records_of content)) other) left right
        (subst (λ table. SamePlain (with_rows name (rows_of first.table (records_of content)) some) (with_rows name (rows_of table (records_of content)) other)) found (with_rows-same name (rows_of first.table (records_of content))))
        first.gained second.gained

  -- what a statement does leaves the same states
  pub does_same : (statement : Statement) (one two : Answer) (left right : Plain) (work : Judged) (file : Option (List ℕ)) → Does some statement work file one left → Does other statement work file two right → SamePlain left right
  does_same statement one two left right (judged.Create table) file first second = between _ _ left right (with_table-same table) first.1 second.1
  does_same statement one two left right (judged.Drop name) file first second = between _ _ left right (without_table-same name) first.1 second.1
  does_same statement one two left right (judged.Load name wanted) None first second = absurd first
  does_same statement one two left right (judged.Load name wanted) (Some content) first second = loads_same statement one two left right name content first second
  does_same statement one two left right (judged.Measure name) file first second = between _ _ left right (with_stats-same name (measured_in some name) (measured_in other name) (same_measures name)) first.1 second.1
  does_same statement one two left right (judged.Hand name rows cols) file first second =
      between _ _ left right (with_stats-same name (option_map (handed rows cols) (some.stats name)) (option_map (handed rows cols) (other.stats name)) (same_hands name rows cols)) first.1 second.1
  does_same statement one two left right (judged.Budget amount) file first second =
      between _ _ left right (with_settings-same (with_budget amount some.settings) (with_budget amount other.settings) (ap (with_budget amount) same.settings)) first.1 second.1
  does_same statement one two left right (judged.Cost part amount) file first second =
      between _ _ left right (with_settings-same (with_constant part amount some.settings) (with_constant part amount other.settings) (ap (with_constant part amount) same.settings)) first.1 second.1
  does_same (s.Select select) one two left right (judged.Select form) file first second = between some other left right same first.same second.same
  does_same _ one two left right (judged.Select form) file first second = absurd first
  does_same statement one two left right (judged.Explain form) file first second = between some other left right same first.2 second.2
  does_same statement one two left right (judged.ExplainJson form) file first second = between some other left right same first.2 second.2
  does_same statement one two left right (judged.CheckPlan wanted form) None first second = absurd first
  does_same statement one two left right (judged.CheckPlan wanted form) (Some content) first second = between some other left right same first.same second.same
  does_same statement one two left right _ file first second = absurd first
