-- The rows that a plan gives at each node of an appliance, and what of them crosses between the nodes.
use Rattle.std.specs.Prelude.{List, [], ◌∷◌, ◌++◌, map, Option, Some, None}
use Rattle.std.specs.List.{find, flat_map, slice_get}
use Rattle.pdw_base.specs.Schema.{Env}
use Rattle.pdw_base.specs.declared.node.Node.{Node}
use Rattle.pdw_base.specs.declared.node.Node.TheVariants as node
use Rattle.pdw_catalog.specs.Appliance.{Contents, bag_at}
use Rattle.pdw_catalog.specs.Database.{Database}
use Rattle.pdw_groups.specs.Meaning.{given}
use Rattle.pdw_groups.specs.declared.group.Expr.{Expr}
use Rattle.pdw_groups.specs.declared.group.Group.{Group}
use Rattle.pdw_groups.specs.declared.key.GroupId.{GroupId}
use Rattle.pdw_move.specs.Move.{property_after}
use Rattle.pdw_move.specs.declared.kinds.Move.{Move}
use Rattle.pdw_ways.specs.Ways.{are_groups_of}
use Rattle.pdw_ways.specs.declared.made.Made.{Made}
use Rattle.pdw_ways.specs.declared.plan.Plan.{Plan}
use Rattle.pdw_ways.specs.declared.plan.Plan.TheFolds.{fold-Plan}
use Rattle.pdw_ways.specs.declared.plan.Plan.TheOpen.{Plan-F}
use Rattle.pdw_rules.specs.Stands.{PlacedRows, after_move, made_at, returned}

-- the rows of each table at a node: the control node has none
abbrev pub database_at : Contents → Node → Database
database_at contents (node.Compute k) = record { tables = contents.tables; rows = λ name. bag_at k name contents }
database_at contents node.Control = record { tables = contents.tables; rows = λ name. [] }

-- rows of a group that a move takes, as they stand before it
pub record Crossing : Type 0 where
  pub group : GroupId
  pub move : Move
  pub rows : PlacedRows

-- what a plan gives: the rows of a group under a property, and what crossed between the nodes for it, children first
pub record Given : Type 0 where
  pub made : Made
  pub rows : PlacedRows
  pub crossings : List Crossing

-- the expression of a group that is over children that make these; no other expression of the group has the same children
abbrev pub expr_among : List Made → Option Group → Option Expr
expr_among below None = None
expr_among below (Some group) = find (λ (expr : Expr). are_groups_of below expr.children) group.exprs

abbrev pub expr_over : List Group → GroupId → List Made → Option Expr
expr_over groups number below = expr_among below (slice_get groups number.0)

-- the rows that it makes at each node of those that the children give there
abbrev pub applied : Contents → Option Expr → List PlacedRows → PlacedRows
applied contents None children place = []
applied contents (Some expr) children place = given (database_at contents place) expr.op (map (λ rows. rows place) children)

abbrev pub made_by : List Given → List Made
made_by children = map (λ (child : Given). child.made) children

abbrev pub rows_by : List Given → List PlacedRows
rows_by children = map (λ (child : Given). child.rows) children

module _ (groups : List Group) (contents : Contents) where
  abbrev pub given_step : Plan-F Given → Given
  given_step (Plan-F.Scan group prop) = record {
    made = record { group = group; prop = prop };
    rows = made_at prop (applied contents (expr_over groups group []) []);
    crossings = [];
  }
  given_step (Plan-F.Op group prop children) = record {
    made = record { group = group; prop = prop };
    rows = made_at prop (applied contents (expr_over groups group (made_by children)) (rows_by children));
    crossings = flat_map (λ (child : Given). child.crossings) children;
  }
  given_step (Plan-F.Moved mv child) = record {
    made = record { group = child.made.group; prop = property_after mv };
    rows = after_move contents.nodes mv child.rows;
    crossings = child.crossings ++ record { group = child.made.group; move = mv; rows = child.rows } ∷ [];
  }
  given_step (Plan-F.Free to child) = record {
    made = record { group = child.made.group; prop = to };
    rows = made_at to child.rows;
    crossings = child.crossings;
  }

  -- what a plan gives over an appliance
  abbrev pub given_by : Plan → Given
  given_by = fold-Plan Given given_step

  -- what is returned to the client
  abbrev pub returned_by : Plan → List Env
  returned_by plan = returned contents.nodes (given_by plan).made.prop (given_by plan).rows
