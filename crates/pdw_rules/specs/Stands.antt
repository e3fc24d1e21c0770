-- Rows placed at the nodes, and what it is that they stand for a bag under a property.
use Rattle.std.specs.Prelude.{◌≡◌, ⊤, ℕ, ◌<◌, ◌==◌, Bool, true, false, List, [], if◌then◌else◌}
use Rattle.std.specs.List.{AllByRecursion, flat_map}
use Rattle.pdw_base.specs.Hash.{node_for}
use Rattle.pdw_base.specs.SameBag.{SameBag}
use Rattle.pdw_base.specs.Schema.{Env}
use Rattle.pdw_base.specs.declared.node.Node.{Node}
use Rattle.pdw_base.specs.declared.node.Node.TheVariants as node
use Rattle.pdw_base.specs.declared.schema.ColId.{ColId}
use Rattle.pdw_base.specs.declared.value.Value.TheVariants.{Null}
use Rattle.pdw_expr.specs.declared.agg.Agg.{Agg}
use Rattle.pdw_move.specs.Placed.{compute_nodes, moved}
use Rattle.pdw_move.specs.declared.kinds.Move.{Move}
use Rattle.pdw_move.specs.declared.kinds.Prop.{Prop}
use Rattle.pdw_move.specs.declared.kinds.Prop.TheVariants as prop
use Rattle.pdw_partial.specs.Partial.{IsPartial}

-- the rows at each node
abbrev pub PlacedRows : Type 0
PlacedRows = Node → List Env

-- ---- the site of a property

-- the nodes that have the rows: the first compute node, the control node, or every compute node
abbrev pub is_at : Prop → Node → Bool
is_at prop.Spread (node.Compute k) = true
is_at prop.Spread node.Control = false
is_at (prop.Hash c) (node.Compute k) = true
is_at (prop.Hash c) node.Control = false
is_at prop.Replicated (node.Compute k) = true
is_at prop.Replicated node.Control = false
is_at prop.Single (node.Compute k) = k == 0
is_at prop.Single node.Control = false
is_at prop.Control (node.Compute k) = false
is_at prop.Control node.Control = true

-- rows that are made at the nodes of a site alone
abbrev pub made_at : Prop → PlacedRows → PlacedRows
made_at p rows place = if is_at p place then rows place else []

-- the other nodes have no row
abbrev pub IsInside : Prop → PlacedRows → Type 0
IsInside p rows = (place : Node) → is_at p place ≡ false → rows place ≡ []

-- ---- what rows stand for, at n compute nodes

module _ (n : ℕ) where
  -- the rows of all compute nodes
  abbrev pub together : PlacedRows → List Env
  together rows = flat_map rows (compute_nodes n)

  -- each row is at the compute node that the hash of its column gives
  abbrev pub IsHashed : ColId → PlacedRows → Type 0
  IsHashed c rows = (k : ℕ) → k < n → AllByRecursion (λ (row : Env). node_for n (row c) ≡ k) (rows (node.Compute k))

  -- each compute node has the bag
  abbrev pub IsReplicated : PlacedRows → List Env → Type 0
  IsReplicated rows bag = (k : ℕ) → k < n → SameBag (rows (node.Compute k)) bag

  -- the first compute node has the bag, and the others have no row
  abbrev pub IsSingle : PlacedRows → List Env → Type 0
  IsSingle rows bag = SameBag (rows (node.Compute 0)) bag × ((k : ℕ) → 0 < k → k < n → rows (node.Compute k) ≡ [])

  -- placed rows stand for a bag under a property
  abbrev pub StandsFor : Prop → PlacedRows → List Env → Type 0
  StandsFor prop.Spread rows bag = SameBag (together rows) bag
  StandsFor (prop.Hash c) rows bag = SameBag (together rows) bag × IsHashed c rows
  StandsFor prop.Replicated rows bag = IsReplicated rows bag
  StandsFor prop.Single rows bag = IsSingle rows bag
  StandsFor prop.Control rows bag = SameBag (rows node.Control) bag

  -- what is read where rows stand so, and returned to the client
  abbrev pub returned : Prop → PlacedRows → List Env
  returned prop.Spread rows = together rows
  returned (prop.Hash c) rows = together rows
  returned prop.Replicated rows = rows (node.Compute 0)
  returned prop.Single rows = rows (node.Compute 0)
  returned prop.Control rows = rows node.Control

  -- what a move makes of placed rows: each node has the rows that are sent to it
  abbrev pub after_move : Move → PlacedRows → PlacedRows
  after_move move rows = moved n move (λ row. row) rows

-- rows have NULL in a column
abbrev pub HasNone : ColId → List Env → Type 0
HasNone c rows = AllByRecursion (λ (row : Env). row c ≡ Null) rows

-- the column by whose hash one side of a join stands is not of the other side, whose rows have NULL there
abbrev pub HasNoneOf : Prop → List Env → Type 0
HasNoneOf prop.Spread rows = ⊤
HasNoneOf (prop.Hash c) rows = HasNone c rows
HasNoneOf prop.Replicated rows = ⊤
HasNoneOf prop.Single rows = ⊤
HasNoneOf prop.Control rows = ⊤

-- placed rows stand for partial rows that are admitted for an input
pub record StandsForPartials (n : ℕ) (keys : List ColId) (aggs : List Agg) (p : Prop) (rows : PlacedRows) (input : List Env) : Type 0 where
  pub partials : List Env
  pub admitted : IsPartial keys aggs input partials
  pub stands : StandsFor n p rows partials
