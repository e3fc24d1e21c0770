-- What becomes of the rows: whatever happens, those that are meant for a target are written there, or on their way.
use Rattle.std.specs.Prelude.{◌≡◌, ⊤, ℕ, ◌<◌, List, [], ◌++◌, filter}
use Rattle.std.specs.List.{flat_map}
use Rattle.pdw_base.specs.SameBag.{SameBag}
use Rattle.pdw_base.specs.declared.node.Node.{Node}
use Rattle.pdw_base.specs.declared.node.Node.TheVariants as node
use Rattle.pdw_move.specs.Placed.{Row, rows_at}
use Rattle.pdw_move.specs.declared.placed.Placed.{Placed}
use Rattle.pdw_machine.specs.Machine.{Job, Source, State, goes, lane_at, place, rows_in, source_at, target_at, unread as unread_of}

-- a node of an appliance with n compute nodes
abbrev pub IsThere : ℕ → Node → Type 0
IsThere n (node.Compute k) = k < n
IsThere n node.Control = ⊤

-- the rows of the sources that are meant for a target, whatever became of them
abbrev pub moved_in : Job → State → Node → List Row
moved_in job s to = flat_map (λ source. filter (goes job source.node to) source.rows) s.sources

-- on the link, in the packet that is filled, and still to be read
abbrev pub on_the_way : Job → Node → Source → List Row
on_the_way job to source =
    rows_in (lane_at (place job.nodes to) source.lanes).link
    ++ ((lane_at (place job.nodes to) source.lanes).filling ++ filter (goes job source.node to) (unread_of source))

-- written, in the inbox, and on the way from each source
abbrev pub all_for : Job → State → Node → List Row
all_for job s to =
    (target_at (place job.nodes to) s).written
    ++ (rows_in (target_at (place job.nodes to) s).inbox ++ flat_map (on_the_way job to) s.sources)

-- at each node they are the rows that are meant for it
abbrev pub AddsUp : Job → State → Type 0
AddsUp job s = (to : Node) → IsThere job.nodes to → SameBag (all_for job s to) (moved_in job s to)

-- rows stand where they are meant to
abbrev pub IsMoved : Job → State → Placed → Type 0
IsMoved job s placed = (to : Node) → IsThere job.nodes to → SameBag (rows_at placed to) (moved_in job s to)

-- nothing is unread, filled in, on a link or in an inbox
pub record IsIdle (n : ℕ) (s : State) : Type 0 where
  pub unread : (from : Node) → IsThere n from → unread_of (source_at (place n from) s) ≡ []
  pub filling : (from to : Node) → IsThere n from → IsThere n to → (lane_at (place n to) (source_at (place n from) s).lanes).filling ≡ []
  pub link : (from to : Node) → IsThere n from → IsThere n to → (lane_at (place n to) (source_at (place n from) s).lanes).link ≡ []
  pub inbox : (to : Node) → IsThere n to → (target_at (place n to) s).inbox ≡ []
