-- The plain state of a script: its tables with all their rows, wherever these stand, their statistics, and the settings.
use Rattle.std.specs.Prelude.{◌≡◌, ℕ, List, [], ◌∷◌, ◌++◌, Option, None, Some, if◌then◌else◌}
use Rattle.std.specs.Map.{remove_entry}
use Rattle.std.specs.Option.{option_map}
use Rattle.std.specs.Str.{bytes_eq}
use Rattle.pdw_base.specs.SameBag.{SameBag}
use Rattle.pdw_catalog.specs.Appliance.{whole_of}
use Rattle.pdw_catalog.specs.Catalog.{Tables, table_named}
use Rattle.pdw_catalog.specs.Database.{Database}
use Rattle.pdw_catalog.specs.Table.{Row}
use Rattle.pdw_catalog.specs.declared.table.Table.{Table}
use Rattle.pdw_engine.specs.Settings.{usual_settings, with_budget, with_constant}
use Rattle.pdw_engine.specs.State.{State}
use Rattle.pdw_engine.specs.Statistics.{Numbers, handed}
use Rattle.pdw_engine.specs.declared.settings.Settings.{Settings}
use Rattle.pdw_stats.specs.Book.{stats_of}
use Rattle.pdw_stats.specs.Measured.{measured}
use Rattle.pdw_stats.specs.Stats.{usual_stats}
use Rattle.pdw_stats.specs.declared.stats.Stats.{Stats}
use Rattle.pdw_syntax.specs.declared.statement.CostPart.{CostPart}

-- the number of compute nodes, the tables in the order of their creation, the rows of each name, which are a bag, the
-- statistics of each name, and the settings
pub record Plain : Type 0 where
  pub nodes : ℕ
  pub tables : Tables
  pub rows : List ℕ → List Row
  pub stats : List ℕ → Option Stats
  pub settings : Settings

-- two plain states are the same where their rows are equal bags
pub record SamePlain (old new : Plain) : Type 0 where
  pub nodes : new.nodes ≡ old.nodes
  pub tables : new.tables ≡ old.tables
  pub rows : (name : List ℕ) → SameBag (new.rows name) (old.rows name)
  pub stats : (name : List ℕ) → new.stats name ≡ old.stats name
  pub settings : new.settings ≡ old.settings

-- what queries are asked of
abbrev pub database_of : Plain → Database
database_of state = record { tables = state.tables; rows = state.rows }

-- what a session keeps, without the nodes of its rows
abbrev pub plain_of : State → Plain
plain_of state = record {
  nodes = state.contents.nodes;
  tables = state.contents.tables;
  rows = λ name. whole_of name state.contents;
  stats = λ name. stats_of name state.book;
  settings = state.settings;
}

-- a script begins without tables
abbrev pub start : ℕ → Plain
start nodes = record { nodes = nodes; tables = []; rows = λ name. []; stats = λ name. None; settings = usual_settings }

-- the rows of each name, with other rows at one name
abbrev pub rows_with : List ℕ → List Row → (List ℕ → List Row) → List ℕ → List Row
rows_with name changed rows other = if bytes_eq other name then changed else rows other

-- the statistics of each name, with others at one name, or none
abbrev pub stats_with : List ℕ → Option Stats → (List ℕ → Option Stats) → List ℕ → Option Stats
stats_with name changed stats other = if bytes_eq name other then changed else stats other

-- a new table is the last, has no rows, and statistics as a table of which nothing is known
abbrev pub with_table : Table → Plain → Plain
with_table table state = record state {
  tables = state.tables ++ (table.name, table) ∷ [];
  rows = rows_with table.name [] state.rows;
  stats = stats_with table.name (Some (usual_stats table)) state.stats;
}

-- a table is gone with its rows and its statistics, and the others keep their order
abbrev pub without_table : List ℕ → Plain → Plain
without_table name state = record state {
  tables = remove_entry (bytes_eq name) state.tables;
  rows = rows_with name [] state.rows;
  stats = stats_with name None state.stats;
}

-- a table has these rows more; its statistics stay
abbrev pub with_rows : List ℕ → List Row → Plain → Plain
with_rows name more state = record state { rows = rows_with name (state.rows name ++ more) state.rows }

-- the statistics that the whole of a table has
abbrev pub measured_in : Plain → List ℕ → Option Stats
measured_in state name = option_map (λ (table : Table). measured table.columns (state.rows name)) (table_named name state.tables)

-- a table is measured: UPDATE STATISTICS
abbrev pub with_measured : List ℕ → Plain → Plain
with_measured name state = record state { stats = stats_with name (measured_in state name) state.stats }

-- the statistics of a table are handed over
abbrev pub with_handed : List ℕ → ℕ → Numbers → Plain → Plain
with_handed name rows numbers state = record state { stats = stats_with name (option_map (handed rows numbers) (state.stats name)) state.stats }

-- SET BUDGET, and SET COST of one constant
abbrev pub with_settings : Settings → Plain → Plain
with_settings settings state = record state { settings = settings }

abbrev pub budget_set : ℕ → Plain → Plain
budget_set amount state = with_settings (with_budget amount state.settings) state

abbrev pub constant_set : CostPart → ℕ → Plain → Plain
constant_set part amount state = with_settings (with_constant part amount state.settings) state
