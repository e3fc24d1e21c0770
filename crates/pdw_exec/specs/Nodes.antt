-- What a node has to run a local tree on: its rows of each table of the appliance, and of each temporary table.
use Rattle.std.specs.List.{AllByRecursion, zip}
use Rattle.std.specs.Prelude.{⊤, All, ℕ, List, [], ◌∷◌, map}
use Rattle.pdw_base.specs.SameBag.{SameBag}
use Rattle.pdw_base.specs.Schema.{Columns, Env, FitsColumns, cell}
use Rattle.pdw_base.specs.declared.node.Node.{Node}
use Rattle.pdw_base.specs.declared.node.Node.TheVariants as node
use Rattle.pdw_catalog.specs.Appliance.{Contents, bag_at}
use Rattle.pdw_catalog.specs.Database.{Database}
use Rattle.pdw_catalog.specs.Table.{Row}
use Rattle.pdw_move.specs.Placed.{rows_at}
use Rattle.pdw_move.specs.declared.placed.Placed.{Placed}

-- the rows of a table at a node; tables stand at compute nodes alone
abbrev pub table_rows : Contents → Node → List ℕ → List Row
table_rows contents (node.Compute k) name = bag_at k name contents
table_rows contents node.Control name = []

-- the tables of an appliance as one of its nodes has them
abbrev pub node_database : Contents → Node → Database
node_database contents node = record { tables = contents.tables; rows = table_rows contents node }

module _ (temps : List Placed) (schemas : List Columns) (node : Node) where
  -- the rows of each temporary table at the node, read by its schema; a table has both
  abbrev pub temporaries : List (List Env)
  temporaries = map (λ table. map (cell table.1) (rows_at table.0 node)) (zip temps schemas)

  -- the rows of each temporary table at the node fit its schema
  abbrev pub FitTemporaries : Type 0
  FitTemporaries = AllByRecursion (λ table. All (FitsColumns table.1) (rows_at table.0 node)) (zip temps schemas)

-- temporary tables that differ in the order of their rows alone
abbrev pub SameTemporaries : List Placed → List Placed → Type 0
SameTemporaries [] [] = ⊤
SameTemporaries [] (other ∷ others) = ⊥
SameTemporaries (temp ∷ temps) [] = ⊥
SameTemporaries (temp ∷ temps) (other ∷ others) = ((node : Node) → SameBag (rows_at temp node) (rows_at other node)) × SameTemporaries temps others
