-- Steps that are well-typed over a catalogue: each tree over the temporary tables of the steps before it.
use Rattle.std.specs.Prelude.{◌≡◌, ⊤, ℕ, ◌||◌, Bool, true, false, List, [], ◌∷◌, ◌++◌, map, Some}
use Rattle.std.specs.List.{AllByRecursion}
use Rattle.std.specs.Option.{option_map}
use Rattle.pdw_algebra.specs.Shape.{has_number}
use Rattle.pdw_algebra.specs.declared.local.LocalTree.TheFolds.{fold-LocalTree}
use Rattle.pdw_algebra.specs.declared.local.LocalTree.TheOpen.{LocalTree-F}
use Rattle.pdw_algebra.specs.declared.local.LocalTree.{LocalTree}
use Rattle.pdw_base.specs.Schema.{Columns}
use Rattle.pdw_catalog.specs.Catalog.{Tables, table_named}
use Rattle.pdw_catalog.specs.Table.{IsStoredKind}
use Rattle.pdw_catalog.specs.declared.table.Column.{Column}
use Rattle.pdw_catalog.specs.declared.table.Table.{Table}
use Rattle.pdw_dsql.specs.declared.steps.Site.TheVariants as site
use Rattle.pdw_dsql.specs.declared.steps.Site.{Site}
use Rattle.pdw_dsql.specs.declared.steps.Step.{Step}
use Rattle.pdw_dsql.specs.declared.steps.Steps.{Steps}
use Rattle.pdw_exec.specs.Shapes.{IsTypedLocal, local_schema}
use Rattle.pdw_move.specs.declared.kinds.Move.TheVariants as move
use Rattle.pdw_move.specs.declared.kinds.Move.{Move}

-- ---- catalogues

-- the columns of each table are INT or TEXT
abbrev pub AreStored : Tables → Type 0
AreStored tables = AllByRecursion (λ entry. AllByRecursion (λ (column : Column). IsStoredKind column.kind) entry.1.columns) tables

-- a catalogue has the tables of another, with their columns
abbrev pub HasTablesOf : Tables → Tables → Type 0
HasTablesOf known tables = (name : List ℕ) (table : Table) → table_named name known ≡ Some table → option_map (λ (other : Table). other.columns) (table_named name tables) ≡ Some table.columns

-- ---- what trees read

abbrev pub reads_step : LocalTree-F Bool → Bool
reads_step (LocalTree-F.Base table cols) = true
reads_step (LocalTree-F.Temp id) = false
reads_step (LocalTree-F.Filter conds child) = child
reads_step (LocalTree-F.Project items child) = child
reads_step (LocalTree-F.Join kind conds left right) = left || right
reads_step (LocalTree-F.GroupBy keys aggs child) = child
reads_step (LocalTree-F.Partial keys aggs child) = child
reads_step (LocalTree-F.Final keys aggs child) = child

-- a tree reads a table of the catalogue
abbrev pub reads_a_table : LocalTree → Bool
reads_a_table = fold-LocalTree Bool reads_step

-- ---- what moves ask

-- only rows of one node, or of the control node, are taken from there alone
abbrev pub site_for : Move → Site
site_for (move.Shuffle c) = site.All
site_for move.ToSingle = site.All
site_for move.ToControl = site.All
site_for move.Broadcast = site.All
site_for (move.Trim c) = site.All
site_for move.FromControl = site.Control
site_for move.FromSingle = site.First

-- the column whose hash a move reads is there
abbrev pub FindsItsColumn : Columns → Move → Type 0
FindsItsColumn schema (move.Shuffle c) = has_number c schema ≡ true
FindsItsColumn schema (move.Trim c) = has_number c schema ≡ true
FindsItsColumn schema _ = ⊤

-- ---- steps

-- the schemas of the temporary tables that steps make
abbrev pub schemas_of : List Step → List Columns
schemas_of steps = map (λ (step : Step). step.schema) steps

module _ (tables : Tables) where
  -- a tree is well-typed over temporary tables of these schemas, gives these columns, and reads no table at the control node
  pub record IsTypedTree (schemas : List Columns) (tree : LocalTree) (at : Site) (columns : Columns) : Type 0 where
    pub typed : IsTypedLocal tables schemas tree
    pub schema : local_schema tables schemas tree ≡ columns
    pub reads : at ≡ site.Control → reads_a_table tree ≡ false

  pub record IsTypedStep (schemas : List Columns) (step : Step) : Type 0 where
    pub tree : IsTypedTree schemas step.tree step.site step.schema
    pub column : FindsItsColumn step.schema step.mv
    pub site : step.site ≡ site_for step.mv

  abbrev pub AreTyped : List Columns → List Step → Type 0
  AreTyped schemas [] = ⊤
  AreTyped schemas (step ∷ steps) = IsTypedStep schemas step × AreTyped (schemas ++ step.schema ∷ []) steps

  -- steps whose last tree gives these columns
  pub record AreWellTyped (steps : Steps) (columns : Columns) : Type 0 where
    pub moves : AreTyped [] steps.moves
    pub last : IsTypedTree (schemas_of steps.moves) steps.last steps.last_site columns
