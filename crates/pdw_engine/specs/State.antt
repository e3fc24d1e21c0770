-- What a session keeps: the appliance, the statistics of its tables, and the settings.
use Rattle.std.specs.Prelude.{◌≡◌, ℕ, List, [], None}
use Rattle.pdw_catalog.specs.Appliance.{Contents, empty_of}
use Rattle.pdw_catalog.specs.Catalog.{Tables, table_named}
use Rattle.pdw_engine.specs.Names.{HaveOwnNames}
use Rattle.pdw_engine.specs.Settings.{AreAllowed, usual_settings}
use Rattle.pdw_engine.specs.declared.settings.Settings.{Settings}
use Rattle.pdw_stats.specs.Book.{Book, stats_of}

pub record State : Type 0 where
  pub contents : Contents
  pub book : Book
  pub settings : Settings

-- no table, and no statement has set anything
abbrev pub first_state : ℕ → State
first_state nodes = record { contents = empty_of nodes; book = []; settings = usual_settings }

-- statistics are those of tables
abbrev pub IsOfTables : Tables → Book → Type 0
IsOfTables tables book = (name : List ℕ) → table_named name tables ≡ None → stats_of name book ≡ None

pub record IsOrderly (state : State) : Type 0 where
  pub own : HaveOwnNames state.contents.tables
  pub known : IsOfTables state.contents.tables state.book
  pub allowed : AreAllowed state.settings
