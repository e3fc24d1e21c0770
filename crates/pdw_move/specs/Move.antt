-- The moves: how rows stand before and after each, and which nodes a row goes to.
use Rattle.std.specs.Prelude.{ℕ, ◌==◌, nat_lt, Bool, true, false, if◌then◌else◌}
use Rattle.pdw_base.specs.declared.node.Node.{Node}
use Rattle.pdw_base.specs.declared.node.Node.TheVariants as node
use Rattle.pdw_base.specs.Hash.{node_for}
use Rattle.pdw_base.specs.Schema.{Env}
use Rattle.pdw_move.specs.declared.kinds.Prop.{Prop}
use Rattle.pdw_move.specs.declared.kinds.Prop.TheVariants as prop
use Rattle.pdw_move.specs.declared.kinds.Move.{Move}
use Rattle.pdw_move.specs.declared.kinds.Move.TheVariants.{Shuffle, ToSingle, ToControl, Broadcast, Trim, FromControl, FromSingle}
use Rattle.pdw_move.specs.declared.kinds.Receivers.{Receivers}
use Rattle.pdw_move.specs.declared.kinds.Receivers.TheVariants.{Nobody, One, AllCompute}

-- how the rows stand that a move takes
abbrev pub property_before : Move → Prop
property_before (Shuffle c) = prop.Spread
property_before ToSingle = prop.Spread
property_before ToControl = prop.Spread
property_before Broadcast = prop.Spread
property_before (Trim c) = prop.Replicated
property_before FromControl = prop.Control
property_before FromSingle = prop.Single

-- how they stand afterwards
abbrev pub property_after : Move → Prop
property_after (Shuffle c) = prop.Hash c
property_after ToSingle = prop.Single
property_after ToControl = prop.Control
property_after Broadcast = prop.Replicated
property_after (Trim c) = prop.Hash c
property_after FromControl = prop.Replicated
property_after FromSingle = prop.Replicated

-- a row that stays where it is, if this is the node that the hash of its column gives
abbrev pub trimmed : Node → ℕ → Receivers
trimmed (node.Compute k) place = if k == place then One (node.Compute k) else Nobody
trimmed node.Control place = Nobody

-- where a row goes, by its values, that stands at a node among n compute nodes
abbrev pub receivers : ℕ → Move → Node → Env → Receivers
receivers n (Shuffle c) source env = One (node.Compute (node_for n (env c)))
receivers n ToSingle source env = One (node.Compute 0)
receivers n ToControl source env = One node.Control
receivers n Broadcast source env = AllCompute
receivers n (Trim c) source env = trimmed source (node_for n (env c))
receivers n FromControl source env = AllCompute
receivers n FromSingle source env = AllCompute

abbrev pub is_same_node : Node → Node → Bool
is_same_node (node.Compute a) (node.Compute b) = a == b
is_same_node (node.Compute a) node.Control = false
is_same_node node.Control (node.Compute b) = false
is_same_node node.Control node.Control = true

-- whether a node is among the receivers
abbrev pub reaches : ℕ → Receivers → Node → Bool
reaches n Nobody target = false
reaches n (One place) target = is_same_node place target
reaches n AllCompute (node.Compute k) = nat_lt k n
reaches n AllCompute node.Control = false
