-- The appliance: the tables, and the rows of each at each compute node.
use Rattle.std.specs.Prelude.{◌≡◌, ⊤, ℕ, ◌+◌, ◌≤◌, ◌<◌, false, List, [], ◌∷◌, ◌++◌, length, slice_index_or, replicate, IsSome, IfSome, Option, Some, None, if◌then◌else◌, AllPairs}
use Rattle.std.specs.List.{AllByRecursion, flat_map}
use Rattle.std.specs.Str.{bytes_eq}
use Rattle.std.specs.Map.{remove_entry}
use Rattle.pdw_base.specs.Hash.{node_for}
use Rattle.pdw_base.specs.SameBag.{SameBag}
use Rattle.pdw_catalog.specs.declared.table.Column.{Column}
use Rattle.pdw_catalog.specs.declared.table.Table.{Table}
use Rattle.pdw_catalog.specs.declared.table.Placing.{Placing}
use Rattle.pdw_catalog.specs.declared.table.Placing.TheVariants.{Hash, Replicate}
use Rattle.pdw_base.specs.declared.limits.TheConstants.{MOST_TABLES, MOST_COLUMNS}
use Rattle.pdw_catalog.specs.Table.{Row, FitsTable, IsPlaced, IsStoredKind, most_rows, value_at}
use Rattle.pdw_catalog.specs.Catalog.{Tables, table_named}

-- the rows of one table at each compute node
abbrev pub Bags : Type 0
Bags = List (List Row)

-- what an appliance holds: for each table, in the order of creation, its rows at each compute node
pub record Contents : Type 0 where
  pub nodes : ℕ
  pub tables : Tables
  pub bags : List Bags

-- the rows at one node
abbrev pub at_node : ℕ → Bags → List Row
at_node node bags = slice_index_or bags node []

-- all rows of a table: those of all nodes together, or one copy
abbrev pub whole_rows : Placing → Bags → List Row
whole_rows (Hash column) bags = flat_map (λ bag. bag) bags
whole_rows Replicate bags = at_node 0 bags

-- each row stands at the node that the hash of its column gives; or each node has the same rows
abbrev pub StandsWhere : ℕ → Placing → Bags → Type 0
StandsWhere n (Hash column) bags = (node : ℕ) → node < n → AllByRecursion (λ row. node_for n (value_at column row) ≡ node) (at_node node bags)
StandsWhere n Replicate bags = (node : ℕ) → node < n → SameBag (at_node node bags) (at_node 0 bags)

-- a table that an appliance may have: 1 to 32 columns of different names, each INT or TEXT, and a hash column that it has
pub record IsTable (table : Table) : Type 0 where
  pub some : 1 ≤ length table.columns
  pub most : length table.columns ≤ MOST_COLUMNS
  pub different : AllPairs (λ (c d : Column). bytes_eq c.name d.name ≡ false) table.columns
  pub kinds : AllByRecursion (λ (c : Column). IsStoredKind c.kind) table.columns
  pub placed : IsPlaced table.placing (length table.columns)

-- the rows of a table stand where its placing says, fit its columns and keep its limit
pub record Stores (n : ℕ) (table : Table) (bags : Bags) : Type 0 where
  pub shape : IsTable table
  pub each_node : length bags ≡ n
  pub stands : StandsWhere n table.placing bags
  pub fits : (node : ℕ) → node < n → AllByRecursion (FitsTable table.columns) (at_node node bags)
  pub limit : length (whole_rows table.placing bags) ≤ most_rows table.placing

-- every table stands under its own name, with its rows
abbrev pub StoresAll : ℕ → Tables → List Bags → Type 0
StoresAll n [] [] = ⊤
StoresAll n [] (bags ∷ rest) = ⊥
StoresAll n (entry ∷ tables) [] = ⊥
StoresAll n (entry ∷ tables) (bags ∷ rest) = (entry.0 ≡ entry.1.name) × Stores n entry.1 bags × StoresAll n tables rest

-- what holds of every appliance
pub record IsSound (contents : Contents) : Type 0 where
  pub nodes : (1 ≤ contents.nodes) × (contents.nodes ≤ 16)
  pub stored : StoresAll contents.nodes contents.tables contents.bags
  pub limit : length contents.tables ≤ MOST_TABLES

-- the rows of the named table at each node, of tables and their rows in the same order
abbrev pub bags_named : List ℕ → Tables → List Bags → Bags
bags_named name [] rest = []
bags_named name (entry ∷ tables) [] = []
bags_named name (entry ∷ tables) (bags ∷ rest) = if bytes_eq name entry.0 then bags else bags_named name tables rest

abbrev pub bags_of : List ℕ → Contents → Bags
bags_of name contents = bags_named name contents.tables contents.bags

-- the rows of a table at a node
abbrev pub bag_at : ℕ → List ℕ → Contents → List Row
bag_at node name contents = at_node node (bags_of name contents)

-- all rows of a named table, none where there is no such table
abbrev pub whole_in : Option Table → Bags → List Row
whole_in None bags = []
whole_in (Some table) bags = whole_rows table.placing bags

abbrev pub whole_of : List ℕ → Contents → List Row
whole_of name contents = whole_in (table_named name contents.tables) (bags_of name contents)

abbrev pub HasTable : Contents → List ℕ → Type 0
HasTable contents name = IsSome (table_named name contents.tables)

abbrev pub empty_of : ℕ → Contents
empty_of n = record { nodes = n; tables = []; bags = [] }

-- a table may be created: it has a new name and is one that an appliance may have, and there is room for one more
pub record CanCreate (contents : Contents) (table : Table) : Type 0 where
  pub new : table_named table.name contents.tables ≡ None
  pub shape : IsTable table
  pub room : length contents.tables < MOST_TABLES

-- the new table is the last, and has no row at any node
abbrev pub creating : Contents → Table → Contents
creating contents table = record {
  nodes = contents.nodes;
  tables = contents.tables ++ (table.name, table) ∷ [];
  bags = contents.bags ++ replicate contents.nodes [] ∷ [];
}

-- the table is there, without rows, and no other table changes
pub record GainsTable (old new : Contents) (table : Table) : Type 0 where
  pub nodes : new.nodes ≡ old.nodes
  pub tables : new.tables ≡ old.tables ++ (table.name, table) ∷ []
  pub empty : whole_of table.name new ≡ []
  pub others : (other : List ℕ) → bytes_eq other table.name ≡ false → whole_of other new ≡ whole_of other old

-- rows may be appended: the table is there, they fit its columns, and its limit holds afterwards
pub record CanAppend (contents : Contents) (name : List ℕ) (rows : List Row) : Type 0 where
  pub there : HasTable contents name
  pub fits : IfSome (table_named name contents.tables) (λ table. AllByRecursion (FitsTable table.columns) rows)
  pub limit : IfSome (table_named name contents.tables) (λ table. length (whole_of name contents) + length rows ≤ most_rows table.placing)

-- the whole table gains these rows, and no other table changes
pub record GainsRows (old new : Contents) (name : List ℕ) (rows : List Row) : Type 0 where
  pub nodes : new.nodes ≡ old.nodes
  pub tables : new.tables ≡ old.tables
  pub gained : SameBag (whole_of name new) (whole_of name old ++ rows)
  pub others : (other : List ℕ) → bytes_eq other name ≡ false → bags_of other new ≡ bags_of other old

-- the entries without those of a name, of tables and their rows in the same order
abbrev pub bags_without : List ℕ → Tables → List Bags → List Bags
bags_without name [] rest = []
bags_without name (entry ∷ tables) [] = []
bags_without name (entry ∷ tables) (bags ∷ rest) = if bytes_eq name entry.0 then rest else bags ∷ bags_without name tables rest

-- the table and its rows are gone, and the others keep their order
abbrev pub dropping : Contents → List ℕ → Contents
dropping contents name = record {
  nodes = contents.nodes;
  tables = remove_entry (bytes_eq name) contents.tables;
  bags = bags_without name contents.tables contents.bags;
}
