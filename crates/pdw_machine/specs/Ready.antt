-- Which events are enabled in a state, kept so that no event is tested twice.
use Rattle.std.specs.Prelude.{◌≡◌, ℕ, ◌+◌, ◌-◌, nat_lt, Bool, List, [], ◌∷◌, map, slice_index_or, slice_set, false, if◌then◌else◌}
use Rattle.pdw_base.specs.declared.node.Node.{Node}
use Rattle.pdw_base.specs.declared.node.Node.TheVariants as node
use Rattle.pdw_machine.specs.declared.event.Event.{Event}
use Rattle.pdw_machine.specs.declared.event.Event.TheVariants.{Read, Flush, Deliver, Copy}
use Rattle.pdw_machine.specs.Flags.{grid_count, grid_place, grid_row, row_at, up_count, up_place, with_column, with_flag}
use Rattle.pdw_machine.specs.Machine.{IsShaped, Job, Lane, Source, State, Target, can_copy, can_deliver, can_flush, can_read, copy_enabled, deliver_enabled, flush_enabled, lane_at, next_receivers, place, read_enabled, source_at, target_at}
use Rattle.pdw_machine.specs.declared.ready.Ready.{Ready}

abbrev pub can_read_first : Job → Source → Bool
can_read_first job source = can_read job.nodes (next_receivers job source) source

-- a source's flags, one for each target
abbrev pub flush_row : Source → List Bool
flush_row source = map can_flush source.lanes

abbrev pub deliver_row : List Lane → List Target → List Bool
deliver_row [] targets = []
deliver_row (lane ∷ lanes) [] = []
deliver_row (lane ∷ lanes) (target ∷ targets) = can_deliver lane target ∷ deliver_row lanes targets

-- a target's flags, one for each source
abbrev pub deliver_column : ℕ → State → List Bool
deliver_column to s = map (λ source. can_deliver (lane_at to source.lanes) (target_at to s)) s.sources

-- what is kept is what the state says
pub record IsReady (job : Job) (s : State) (ready : Ready) : Type 0 where
  pub next : ready.next.items ≡ map (next_receivers job) s.sources
  pub reads : ready.reads ≡ map (can_read_first job) s.sources
  pub flushes : ready.flushes ≡ map flush_row s.sources
  pub delivers : ready.delivers ≡ map (λ source. deliver_row source.lanes s.targets) s.sources
  pub copies : ready.copies ≡ map can_copy s.targets

-- what is set anew after each event, by the state after it
pub record RefreshesRead (job : Job) (s : State) (from : ℕ) (old new : Ready) : Type 0 where
  pub next : new.next.items ≡ slice_set old.next.items from (next_receivers job (source_at from s))
  pub reads : new.reads ≡ slice_set old.reads from (read_enabled job from s)
  pub flushes : new.flushes ≡ slice_set old.flushes from (flush_row (source_at from s))
  pub delivers : new.delivers ≡ old.delivers
  pub copies : new.copies ≡ old.copies

pub record RefreshesFlush (job : Job) (s : State) (from to : ℕ) (old new : Ready) : Type 0 where
  pub next : new.next.items ≡ old.next.items
  pub reads : new.reads ≡ slice_set old.reads from (read_enabled job from s)
  pub flushes : new.flushes ≡ with_flag from to (flush_enabled from to s) old.flushes
  pub delivers : new.delivers ≡ with_flag from to (deliver_enabled from to s) old.delivers
  pub copies : new.copies ≡ old.copies

pub record RefreshesDeliver (s : State) (from to : ℕ) (old new : Ready) : Type 0 where
  pub next : new.next.items ≡ old.next.items
  pub reads : new.reads ≡ old.reads
  pub flushes : new.flushes ≡ with_flag from to (flush_enabled from to s) old.flushes
  pub delivers : new.delivers ≡ with_column to (deliver_column to s) old.delivers
  pub copies : new.copies ≡ slice_set old.copies to (copy_enabled to s)

pub record RefreshesCopy (s : State) (to : ℕ) (old new : Ready) : Type 0 where
  pub next : new.next.items ≡ old.next.items
  pub reads : new.reads ≡ old.reads
  pub flushes : new.flushes ≡ old.flushes
  pub delivers : new.delivers ≡ with_column to (deliver_column to s) old.delivers
  pub copies : new.copies ≡ slice_set old.copies to (copy_enabled to s)

-- the state has its shape, and what is kept is what it says
pub record IsKept (job : Job) (s : State) (ready : Ready) : Type 0 where
  pub shaped : IsShaped job.nodes s
  pub right : IsReady job s ready

abbrev pub up_in_all : Ready → ℕ
up_in_all ready = up_count ready.reads + (grid_count ready.flushes + (grid_count ready.delivers + up_count ready.copies))

-- the node at a place
abbrev pub node_at : ℕ → ℕ → Node
node_at n at = if nat_lt at n then node.Compute at else node.Control

-- the k-th event whose flag is up, among copies, from deliveries on, from flushes on, and among all
abbrev pub copy_numbered : ℕ → Ready → ℕ → Event
copy_numbered n ready k = Copy (node_at n (up_place ready.copies k))

abbrev pub deliver_numbered : ℕ → Ready → ℕ → Event
deliver_numbered n ready k =
    if nat_lt k (grid_count ready.delivers)
    then Deliver (node_at n (grid_row ready.delivers k)) (node_at n (grid_place ready.delivers k))
    else copy_numbered n ready (k - grid_count ready.delivers)

abbrev pub flush_numbered : ℕ → Ready → ℕ → Event
flush_numbered n ready k =
    if nat_lt k (grid_count ready.flushes)
    then Flush (node_at n (grid_row ready.flushes k)) (node_at n (grid_place ready.flushes k))
    else deliver_numbered n ready (k - grid_count ready.flushes)

abbrev pub numbered : ℕ → Ready → ℕ → Event
numbered n ready k =
    if nat_lt k (up_count ready.reads)
    then Read (node_at n (up_place ready.reads k))
    else flush_numbered n ready (k - up_count ready.reads)

-- whether an event's flag is up
abbrev pub is_up : ℕ → Ready → Event → Bool
is_up n ready (Read from) = slice_index_or ready.reads (place n from) false
is_up n ready (Flush from to) = slice_index_or (row_at (place n from) ready.flushes) (place n to) false
is_up n ready (Deliver from to) = slice_index_or (row_at (place n from) ready.delivers) (place n to) false
is_up n ready (Copy to) = slice_index_or ready.copies (place n to) false
