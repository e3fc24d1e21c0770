-- Rows at the nodes, and what a move makes of them.
use Rattle.std.specs.Prelude.{ℕ, zero, suc, List, [], ◌∷◌, ◌++◌, filter, slice_index_or}
use Rattle.std.specs.List.{flat_map}
use Rattle.pdw_base.specs.declared.node.Node.{Node}
use Rattle.pdw_base.specs.declared.node.Node.TheVariants as node
use Rattle.pdw_base.specs.declared.value.Value.{Value}
use Rattle.pdw_base.specs.Schema.{Env}
use Rattle.pdw_move.specs.declared.kinds.Move.{Move}
use Rattle.pdw_move.specs.declared.placed.Placed.{Placed}
use Rattle.pdw_move.specs.Move.{receivers, reaches}

abbrev pub Row : Type 0
Row = List Value

-- the compute nodes by their numbers
abbrev pub compute_nodes : ℕ → List Node
compute_nodes zero = []
compute_nodes (suc n) = compute_nodes n ++ node.Compute n ∷ []

-- the nodes of an appliance with n compute nodes: these, and the control node last
abbrev pub all_nodes : ℕ → List Node
all_nodes n = compute_nodes n ++ node.Control ∷ []

-- the rows at a node
abbrev pub rows_at : Placed → Node → List Row
rows_at placed (node.Compute k) = slice_index_or placed.nodes k []
rows_at placed node.Control = placed.control

-- the rows that a move brings to a node: of those at each node the ones that go there.
-- `env` gives the values of a row, `rows` the rows at each node.
abbrev pub moved : {X : Type 0} → ℕ → Move → (X → Env) → (Node → List X) → Node → List X
moved n move env rows target = flat_map (λ source. filter (λ row. reaches n (receivers n move source (env row)) target) (rows source)) (all_nodes n)
