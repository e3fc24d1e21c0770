-- The machine of a transfer: its state, when each event is enabled, and what each does.
use Rattle.std.specs.Prelude.{◌≡◌, ℕ, suc, ◌+◌, ◌≤◌, ◌&&◌, nat_lt, Bool, true, List, [], ◌∷◌, ◌++◌, length, map, take, drop, slice_index_or, slice_set, count_by, if◌then◌else◌}
use Rattle.std.specs.List.{flat_map, list_all}
use Rattle.pdw_base.specs.declared.node.Node.{Node}
use Rattle.pdw_base.specs.declared.node.Node.TheVariants as node
use Rattle.pdw_base.specs.Schema.{Columns, cell}
use Rattle.pdw_packet.specs.declared.packet.TheConstants.{MOST_ROWS}
use Rattle.pdw_packet.specs.Packet.{Parcel}
use Rattle.pdw_move.specs.declared.kinds.Move.{Move}
use Rattle.pdw_move.specs.declared.kinds.Receivers.{Receivers}
use Rattle.pdw_move.specs.declared.kinds.Receivers.TheVariants.{Nobody, One, AllCompute}
use Rattle.pdw_move.specs.Move.{reaches, receivers}
use Rattle.pdw_move.specs.declared.placed.Placed.{Placed}
use Rattle.pdw_move.specs.Placed.{Row, all_nodes, rows_at}
use Rattle.pdw_machine.specs.declared.event.Event.{Event}
use Rattle.pdw_machine.specs.declared.event.Event.TheVariants.{Read, Flush, Deliver, Copy}
use Rattle.pdw_machine.specs.declared.lane.TheConstants.{MOST_PACKETS}

-- ---- the state

-- from a source to a target: the rows of the packet that is filled, and the packets on the link
pub record Lane : Type 0 where
  pub from : Node
  pub to : Node
  pub filling : List Row
  pub link : List Parcel

-- a source keeps its rows in place, and knows how many of them were read
pub record Source : Type 0 where
  pub node : Node
  pub rows : List Row
  pub count : ℕ
  pub lanes : List Lane

pub record Target : Type 0 where
  pub inbox : List Parcel
  pub written : List Row

-- sources, the lanes of each and targets stand in the order of the nodes, the control node last
pub record State : Type 0 where
  pub sources : List Source
  pub targets : List Target

-- which move this is, of rows with these columns, among so many compute nodes
pub record Job : Type 0 where
  pub mv : Move
  pub columns : Columns
  pub nodes : ℕ

-- the place of a node in that order. A node that is not there has a place beyond all.
abbrev pub place : ℕ → Node → ℕ
place n (node.Compute k) = if nat_lt k n then k else suc k
place n node.Control = n

-- what stands at a place beyond: nothing
abbrev pub no_lane : Lane
no_lane = record { from = node.Control; to = node.Control; filling = []; link = [] }

abbrev pub no_source : Source
no_source = record { node = node.Control; rows = []; count = 0; lanes = [] }

abbrev pub no_target : Target
no_target = record { inbox = []; written = [] }

abbrev pub lane_at : ℕ → List Lane → Lane
lane_at place lanes = slice_index_or lanes place no_lane

abbrev pub source_at : ℕ → State → Source
source_at place s = slice_index_or s.sources place no_source

abbrev pub target_at : ℕ → State → Target
target_at place s = slice_index_or s.targets place no_target

abbrev pub unread : Source → List Row
unread source = drop source.count source.rows

-- ---- when an event is enabled

-- the receivers of the first of these rows at a source
abbrev pub first_receivers : Job → Node → List Row → Receivers
first_receivers job source [] = Nobody
first_receivers job source (row ∷ rows) = receivers job.nodes job.mv source (cell job.columns row)

abbrev pub next_receivers : Job → Source → Receivers
next_receivers job source = first_receivers job source.node (unread source)

-- the packet that is filled is not full
abbrev pub has_room : Lane → Bool
has_room lane = nat_lt (length lane.filling) MOST_ROWS

-- no packet to these receivers is full
abbrev pub have_room : ℕ → Receivers → List Lane → Bool
have_room n Nobody lanes = true
have_room n (One target) lanes = has_room (lane_at (place n target) lanes)
have_room n AllCompute lanes = list_all has_room (take n lanes)

-- there is an unread row, and room for the first
abbrev pub can_read : ℕ → Receivers → Source → Bool
can_read n next source = nat_lt source.count (length source.rows) && have_room n next source.lanes

-- the packet has a row, and the link has room
abbrev pub can_flush : Lane → Bool
can_flush lane = nat_lt 0 (length lane.filling) && nat_lt (length lane.link) MOST_PACKETS

-- the link has a packet, and the inbox has room
abbrev pub can_deliver : Lane → Target → Bool
can_deliver lane target = nat_lt 0 (length lane.link) && nat_lt (length target.inbox) MOST_PACKETS

abbrev pub can_copy : Target → Bool
can_copy target = nat_lt 0 (length target.inbox)

-- by the places of an event's nodes
abbrev pub read_enabled : Job → ℕ → State → Bool
read_enabled job from s = can_read job.nodes (next_receivers job (source_at from s)) (source_at from s)

abbrev pub flush_enabled : ℕ → ℕ → State → Bool
flush_enabled from to s = can_flush (lane_at to (source_at from s).lanes)

abbrev pub deliver_enabled : ℕ → ℕ → State → Bool
deliver_enabled from to s = can_deliver (lane_at to (source_at from s).lanes) (target_at to s)

abbrev pub copy_enabled : ℕ → State → Bool
copy_enabled to s = can_copy (target_at to s)

abbrev pub is_enabled : Job → State → Event → Bool
is_enabled job s (Read from) = read_enabled job (place job.nodes from) s
is_enabled job s (Flush from to) = flush_enabled (place job.nodes from) (place job.nodes to) s
is_enabled job s (Deliver from to) = deliver_enabled (place job.nodes from) (place job.nodes to) s
is_enabled job s (Copy to) = copy_enabled (place job.nodes to) s

-- ---- what an event does

-- the row goes last into the packet that is filled
abbrev pub fed : Row → Lane → Lane
fed row lane = record { from = lane.from; to = lane.to; filling = lane.filling ++ row ∷ []; link = lane.link }

-- the row goes into the packets to its receivers
abbrev pub dealt : ℕ → Receivers → Row → List Lane → List Lane
dealt n Nobody row lanes = lanes
dealt n (One target) row lanes = slice_set lanes (place n target) (fed row (lane_at (place n target) lanes))
dealt n AllCompute row lanes = map (fed row) (take n lanes) ++ drop n lanes

-- the first unread row, if there is one, is read and dealt
abbrev pub read_first : ℕ → Receivers → Source → List Row → Source
read_first n next source [] = source
read_first n next source (row ∷ rows) = record { node = source.node; rows = source.rows; count = source.count + 1; lanes = dealt n next row source.lanes }

abbrev pub after_read : ℕ → Receivers → Source → Source
after_read n next source = read_first n next source (unread source)

-- the packet goes last on the link
abbrev pub flushed : Lane → Lane
flushed lane = record { from = lane.from; to = lane.to; filling = []; link = lane.link ++ record { from = lane.from; to = lane.to; rows = lane.filling } ∷ [] }

-- the link loses its first packet
abbrev pub delivered : Lane → Lane
delivered lane = record { from = lane.from; to = lane.to; filling = lane.filling; link = drop 1 lane.link }

-- these packets go last into the inbox
abbrev pub received : List Parcel → Target → Target
received packets target = record { inbox = target.inbox ++ packets; written = target.written }

abbrev pub rows_in : List Parcel → List Row
rows_in packets = flat_map (λ packet. packet.rows) packets

-- the first packet's rows go to the written rows
abbrev pub copied : Target → Target
copied target = record { inbox = drop 1 target.inbox; written = target.written ++ rows_in (take 1 target.inbox) }

abbrev pub with_lane : ℕ → Lane → Source → Source
with_lane to lane source = record { node = source.node; rows = source.rows; count = source.count; lanes = slice_set source.lanes to lane }

abbrev pub with_source : ℕ → Source → State → State
with_source from source s = record { sources = slice_set s.sources from source; targets = s.targets }

abbrev pub with_target : ℕ → Target → State → State
with_target to target s = record { sources = s.sources; targets = slice_set s.targets to target }

abbrev pub read_at : ℕ → Receivers → ℕ → State → State
read_at n next from s = with_source from (after_read n next (source_at from s)) s

abbrev pub flush_at : ℕ → ℕ → State → State
flush_at from to s = with_source from (with_lane to (flushed (lane_at to (source_at from s).lanes)) (source_at from s)) s

abbrev pub deliver_at : ℕ → ℕ → State → State
deliver_at from to s =
    with_target to (received (take 1 (lane_at to (source_at from s).lanes).link) (target_at to s))
    (with_source from (with_lane to (delivered (lane_at to (source_at from s).lanes)) (source_at from s)) s)

abbrev pub copy_at : ℕ → State → State
copy_at to s = with_target to (copied (target_at to s)) s

abbrev pub step : Job → Event → State → State
step job (Read from) s = read_at job.nodes (next_receivers job (source_at (place job.nodes from) s)) (place job.nodes from) s
step job (Flush from to) s = flush_at (place job.nodes from) (place job.nodes to) s
step job (Deliver from to) s = deliver_at (place job.nodes from) (place job.nodes to) s
step job (Copy to) s = copy_at (place job.nodes to) s

-- ---- the start

-- so many sources, targets and lanes of each source as there are nodes
pub record IsShaped (n : ℕ) (s : State) : Type 0 where
  pub sources : length s.sources ≡ suc n
  pub targets : length s.targets ≡ suc n
  pub lanes : (from : ℕ) → from ≤ n → length (source_at from s).lanes ≡ suc n

abbrev pub start_lane : Node → Node → Lane
start_lane from to = record { from = from; to = to; filling = []; link = [] }

abbrev pub start_source : ℕ → Placed → Node → Source
start_source n placed from = record { node = from; rows = rows_at placed from; count = 0; lanes = map (start_lane from) (all_nodes n) }

abbrev pub start_target : Node → Target
start_target to = no_target

-- every row is unread, and nothing is on its way
abbrev pub start_of : ℕ → Placed → State
start_of n placed = record { sources = map (start_source n placed) (all_nodes n); targets = map start_target (all_nodes n) }

-- a job and how far it is
pub record Work : Type 0 where
  pub job : Job
  pub state : State

-- where the written rows stand
abbrev pub all_written : State → List (List Row)
all_written s = map (λ target. target.written) s.targets

-- whether a row at a source goes to a target
abbrev pub goes : Job → Node → Node → Row → Bool
goes job source target row = reaches job.nodes (receivers job.nodes job.mv source (cell job.columns row)) target

-- how many of these rows at a source go to each target
abbrev pub sent_from : Job → Node → List Row → List (Node × Node × ℕ)
sent_from job source rows = map (λ to. (source, to, count_by (goes job source to) rows)) (all_nodes job.nodes)

abbrev pub sent_in : Job → State → List (Node × Node × ℕ)
sent_in job s = flat_map (λ source. sent_from job source.node source.rows) s.sources
