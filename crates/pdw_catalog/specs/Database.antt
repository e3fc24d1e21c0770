-- The tables that a query is asked of, without nodes: for each name its columns and all its rows.
use Rattle.std.specs.Prelude.{ℕ, List}
use Rattle.pdw_catalog.specs.Appliance.{Contents, whole_of}
use Rattle.pdw_catalog.specs.Catalog.{Tables}
use Rattle.pdw_catalog.specs.Table.{Row}

pub record Database : Type 0 where
  pub tables : Tables
  -- the rows of a name, in any order
  pub rows : List ℕ → List Row

-- the tables of an appliance, undivided
abbrev pub undivided : Contents → Database
undivided contents = record { tables = contents.tables; rows = λ name. whole_of name contents }
