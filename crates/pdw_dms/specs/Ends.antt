-- How many events a transfer takes.
use Rattle.std.specs.Prelude.{◌≡◌, ℕ, ◌+◌, ◌*◌, ◌≤◌, ◌&&◌, Bool, true, false, List, length, count_by, filter}
use Rattle.pdw_base.specs.SameBag.{weigh}
use Rattle.pdw_base.specs.declared.node.Node.{Node}
use Rattle.pdw_move.specs.Move.{is_same_node}
use Rattle.pdw_move.specs.Placed.{all_nodes}
use Rattle.pdw_machine.specs.declared.event.Event.{Event}
use Rattle.pdw_machine.specs.declared.event.Event.TheVariants.{Read, Flush, Deliver, Copy}
use Rattle.pdw_machine.specs.Machine.{Job, State, goes, place, source_at}
use Rattle.pdw_dms.specs.Moved.{IsThere}

abbrev pub is_read : Event → Bool
is_read (Read from) = true
is_read (Flush from to) = false
is_read (Deliver from to) = false
is_read (Copy to) = false

abbrev pub is_flush : Event → Bool
is_flush (Read from) = false
is_flush (Flush from to) = true
is_flush (Deliver from to) = false
is_flush (Copy to) = false

abbrev pub is_deliver : Event → Bool
is_deliver (Read from) = false
is_deliver (Flush from to) = false
is_deliver (Deliver from to) = true
is_deliver (Copy to) = false

abbrev pub is_copy : Event → Bool
is_copy (Read from) = false
is_copy (Flush from to) = false
is_copy (Deliver from to) = false
is_copy (Copy to) = true

-- a packet of these two nodes goes on its link
abbrev pub is_flush_between : Node → Node → Event → Bool
is_flush_between from to (Read a) = false
is_flush_between from to (Flush a b) = is_same_node a from && is_same_node b to
is_flush_between from to (Deliver a b) = false
is_flush_between from to (Copy b) = false

-- how many rows the sources have, and how many go from a node to a node
abbrev pub row_count : State → ℕ
row_count s = weigh (λ source. length source.rows) s.sources

abbrev pub rows_between : Job → State → Node → Node → ℕ
rows_between job s from to = length (filter (goes job (source_at (place job.nodes from) s).node to) (source_at (place job.nodes from) s).rows)

-- one read for each row, and a flush, a delivery and a copy for each packet. From a node to a node go at least as many
-- packets as its rows fill, and at most as many as there are rows.
pub record EndsWith (job : Job) (s : State) (events : List Event) : Type 0 where
  pub reads : count_by is_read events ≡ row_count s
  pub delivers : count_by is_deliver events ≡ count_by is_flush events
  pub copies : count_by is_copy events ≡ count_by is_flush events
  pub all : length events ≡ row_count s + 3 * count_by is_flush events
  pub fill : (from to : Node) → IsThere job.nodes from → IsThere job.nodes to → rows_between job s from to ≤ 64 * count_by (is_flush_between from to) events
  pub some : (from to : Node) → IsThere job.nodes from → IsThere job.nodes to → count_by (is_flush_between from to) events ≤ rows_between job s from to
  pub pairs : count_by is_flush events ≡ weigh (λ from. weigh (λ to. count_by (is_flush_between from to) events) (all_nodes job.nodes)) (all_nodes job.nodes)
