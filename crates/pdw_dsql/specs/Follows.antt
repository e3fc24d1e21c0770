-- Steps run one after the other: each makes its tree's rows at its site and moves them into the next temporary table, and the
-- last tree's rows are returned. They follow a plan where they move and return what it does.
use Rattle.std.specs.Prelude.{◌≡◌, ⊤, ℕ, suc, List, [], ◌∷◌, ◌++◌, map}
use Rattle.pdw_algebra.specs.Local.{local_rows}
use Rattle.pdw_algebra.specs.declared.local.LocalTree.{LocalTree}
use Rattle.pdw_base.specs.Schema.{Columns, Env}
use Rattle.pdw_catalog.specs.Appliance.{Contents}
use Rattle.pdw_dsql.specs.Sites.{made_within, rows_from}
use Rattle.pdw_dsql.specs.Steps.{schema_at}
use Rattle.pdw_dsql.specs.declared.steps.Step.{Step}
use Rattle.pdw_dsql.specs.declared.steps.Steps.{Steps}
use Rattle.pdw_exec.specs.Nodes.{node_database}
use Rattle.pdw_groups.specs.declared.group.Group.{Group}
use Rattle.pdw_move.specs.declared.kinds.Move.{Move}
use Rattle.pdw_plan.specs.Given.{Crossing, given_by, returned_by}
use Rattle.pdw_rules.specs.Stands.{PlacedRows, after_move}
use Rattle.pdw_ways.specs.declared.plan.Plan.{Plan}

-- a move with the rows that it takes, of these columns, as they stand before it
pub record Taken : Type 0 where
  pub move : Move
  pub schema : Columns
  pub rows : PlacedRows

module _ (contents : Contents) where
  -- the rows of a tree at each node, over temporary tables of which each node has its rows
  abbrev pub rows_of_tree : List PlacedRows → LocalTree → PlacedRows
  rows_of_tree temps tree place = local_rows (node_database contents place) (map (λ (temp : PlacedRows). temp place) temps) tree

  abbrev pub taken_by : List PlacedRows → Step → Taken
  taken_by temps step = record { move = step.mv; schema = step.schema; rows = made_within step.site (rows_of_tree temps step.tree) }

  -- the rows that a move brings
  abbrev pub brought_by : Taken → PlacedRows
  brought_by taken = after_move contents.nodes taken.move taken.rows

  -- what steps take one after the other, where these temporary tables are there before
  abbrev pub taken_in_turn : List PlacedRows → List Step → List Taken
  taken_in_turn temps [] = []
  taken_in_turn temps (step ∷ steps) = taken_by temps step ∷ taken_in_turn (temps ++ brought_by (taken_by temps step) ∷ []) steps

  -- the temporary tables that are there after all
  abbrev pub temporaries_of : Steps → List PlacedRows
  temporaries_of steps = map brought_by (taken_in_turn [] steps.moves)

  -- what is returned to the client
  abbrev pub returned_of : Steps → List Env
  returned_of steps = rows_from contents.nodes steps.last_site (rows_of_tree (temporaries_of steps) steps.last)

-- each step brings its rows into the temporary table of the next number
abbrev pub AreNumbered : ℕ → List Step → Type 0
AreNumbered number [] = ⊤
AreNumbered number (step ∷ steps) = (step.to ≡ number) × AreNumbered (suc number) steps

-- what crosses between the nodes for a plan, with the columns of its group
abbrev pub taken_of : List Group → Crossing → Taken
taken_of groups crossing = record { move = crossing.move; schema = schema_at groups crossing.group; rows = crossing.rows }

-- steps that do what a plan does: one for each of its moves, children first, with that move and the plan's rows at every node,
-- as lists, under the columns of their group; and what is returned is what the plan returns
pub record Follows (groups : List Group) (contents : Contents) (plan : Plan) (steps : Steps) : Type 0 where
  pub moves : taken_in_turn contents [] steps.moves ≡ map (taken_of groups) (given_by groups contents plan).crossings
  pub numbers : AreNumbered 1 steps.moves
  pub rows : returned_of contents steps ≡ returned_by groups contents plan
