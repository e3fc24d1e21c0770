-- The rows of one table at the compute nodes, before and after rows are added.
use Rattle.std.specs.Prelude.{◌≡◌, ℕ, ◌<◌, ◌==◌, List, ◌++◌, length, map, take, drop, slice_index}
use Rattle.std.specs.List.{filter, flat_map}
use Rattle.pdw_base.specs.Hash.{node_for}
use Rattle.pdw_base.specs.SameBag.{SameBag}
use Rattle.pdw_catalog.specs.declared.table.Placing.{Placing}
use Rattle.pdw_catalog.specs.declared.table.Placing.TheVariants.{Hash, Replicate}
use Rattle.pdw_catalog.specs.Table.{Row, value_at}
use Rattle.pdw_catalog.specs.Appliance.{Bags, at_node}

-- of these rows, those that the hash of a column places at a node among n
abbrev pub placed_at : ℕ → ℕ → ℕ → List Row → List Row
placed_at n column node rows = filter (λ row. node_for n (value_at column row) == node) rows

-- each node gains, in order, the rows that the hash of the column places there, and all nodes together gain these rows
pub record Placed (n column : ℕ) (old new : Bags) (rows : List Row) : Type 0 where
  pub count : length new ≡ length old
  pub each : (node : ℕ) → node < length old → at_node node new ≡ at_node node old ++ placed_at n column node rows
  pub together : SameBag (flat_map (λ bag. bag) new) (flat_map (λ bag. bag) old ++ rows)

-- each node gains all of these rows
abbrev pub Copied : Bags → Bags → List Row → Type 0
Copied old new rows = new ≡ map (λ bag. bag ++ rows) old

-- each of the first nodes gains all of these rows
abbrev pub CopiedToFirst : ℕ → Bags → Bags → List Row → Type 0
CopiedToFirst count old new rows = new ≡ map (λ bag. bag ++ rows) (take count old) ++ drop count old

-- these rows were added where the placing says
abbrev pub Adds : ℕ → Placing → Bags → Bags → List Row → Type 0
Adds n (Hash column) old new rows = Placed n column old new rows
Adds n Replicate old new rows = Copied old new rows

-- each node has first the rows that it had
pub record Extends (old new : Bags) : Type 0 where
  pub count : length new ≡ length old
  pub each : (node : ℕ) → node < length old → take (length (at_node node old)) (at_node node new) ≡ at_node node old

-- each node keeps as many of its rows as its number says
pub record Shortened (lengths : List ℕ) (old new : Bags) : Type 0 where
  pub count : length new ≡ length old
  pub each : (node : ℕ) → node < length old → at_node node new ≡ take (slice_index lengths node) (at_node node old)
