-- Temporary tables as they stand: the rows of each at the nodes, with its columns.
use Rattle.std.specs.Prelude.{⊤, ℕ, List, [], ◌∷◌}
use Rattle.pdw_algebra.specs.Local.{local_rows}
use Rattle.pdw_algebra.specs.declared.local.LocalTree.{LocalTree}
use Rattle.pdw_base.specs.Schema.{Columns}
use Rattle.pdw_catalog.specs.Appliance.{Contents}
use Rattle.pdw_dsql.specs.Follows.{Taken}
use Rattle.pdw_dsql.specs.Sites.{made_within}
use Rattle.pdw_dsql.specs.declared.steps.Step.{Step}
use Rattle.pdw_exec.specs.Nodes.{node_database, temporaries}
use Rattle.pdw_exec.specs.Shapes.{local_schema}
use Rattle.pdw_move.specs.declared.placed.Placed.{Placed}
use Rattle.pdw_rules.specs.Stands.{PlacedRows}
use Rattle.pdw_runner.specs.Starts.{ArePlaced}
use Rattle.pdw_runner.specs.declared.temporaries.Temporaries.{Temporaries}

-- tables as they stand hold these rows, in any order
abbrev pub AreTables : ℕ → List Placed → List Columns → List PlacedRows → Type 0
AreTables n [] [] [] = ⊤
AreTables n (placed ∷ others) (columns ∷ schemas) (rows ∷ tables) = ArePlaced n columns placed rows × AreTables n others schemas tables
AreTables n _ _ _ = ⊥

abbrev pub Hold : ℕ → Temporaries → List PlacedRows → Type 0
Hold n temps tables = AreTables n temps.placed.items temps.schemas.items tables

module _ (contents : Contents) (temps : Temporaries) where
  -- the rows of a tree at each node, over these tables
  abbrev pub rows_over : LocalTree → PlacedRows
  rows_over tree place = local_rows (node_database contents place) (temporaries temps.placed.items temps.schemas.items place) tree

  -- and their columns
  abbrev pub columns_over : LocalTree → Columns
  columns_over tree = local_schema contents.tables temps.schemas.items tree

  -- what a step takes
  abbrev pub taken_over : Step → Taken
  taken_over step = record { move = step.mv; schema = step.schema; rows = made_within step.site (rows_over step.tree) }
