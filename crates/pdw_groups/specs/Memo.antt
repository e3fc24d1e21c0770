-- The memo of a tree, and what it says.
use Rattle.std.specs.Prelude.{◌≡◌, ⊤, ℕ, ◌<◌, List, [], ◌∷◌, map, Option, Some, None}
use Rattle.std.specs.List.{AllByRecursion, slice_get}
use Rattle.pdw_algebra.specs.declared.tree.Tree.{Tree}
use Rattle.pdw_base.specs.Schema.{Env}
use Rattle.pdw_catalog.specs.Catalog.{Tables}
use Rattle.pdw_catalog.specs.Database.{Database}
use Rattle.pdw_groups.specs.Columns.{useful_columns}
use Rattle.pdw_groups.specs.Group.{GroupOf, kept_group}
use Rattle.pdw_groups.specs.Meaning.{Admits, Meaning, given}
use Rattle.pdw_groups.specs.Node.{Before, node_of}
use Rattle.pdw_groups.specs.declared.block.BlockPart.{BlockPart}
use Rattle.pdw_groups.specs.declared.block.Level.{Level}
use Rattle.pdw_groups.specs.declared.block.Level.TheVariants as level
use Rattle.pdw_groups.specs.declared.group.Expr.{Expr}
use Rattle.pdw_groups.specs.declared.group.Group.{Group}
use Rattle.pdw_groups.specs.declared.key.GroupId.{GroupId}

-- groups by number, of which the last is the root, and blocks by number
pub record Contents : Type 0 where
  pub groups : List Group
  pub blocks : List BlockPart

-- nothing stands before the whole tree
abbrev pub at_first : Before
at_first = record { blocks = 0; operators = 0; groups = 0 }

module _ (tables : Tables) (levels : ℕ → Level) (tree : Tree) where
  -- the groups of the whole tree with their meanings
  abbrev pub groups_of : List GroupOf
  groups_of = (node_of tables levels tree).groups at_first

  -- what each group means, by its number
  abbrev pub meanings_of : List Meaning
  meanings_of = map (λ group. group.means) groups_of

  -- the memo in which each block has the level that its number gives
  abbrev pub memo_of : Contents
  memo_of = record {
    groups = map (kept_group (useful_columns tables tree)) groups_of;
    blocks = (node_of tables levels tree).parts at_first;
  }

-- every block is joined as it is written
abbrev pub all_written : ℕ → Level
all_written block = level.Written

-- ---- what expressions say, where groups mean these

module _ (database : Database) where
  abbrev pub AdmitsIf : Option Meaning → List Env → Type 0
  AdmitsIf None bag = ⊥
  AdmitsIf (Some means) bag = Admits database means bag

module _ (database : Database) (meanings : List Meaning) where
  -- the group of a number admits a bag
  abbrev pub AdmitsAt : ℕ → List Env → Type 0
  AdmitsAt number bag = AdmitsIf database (slice_get meanings number) bag

  abbrev pub AdmitEachAt : List GroupId → List (List Env) → Type 0
  AdmitEachAt [] [] = ⊤
  AdmitEachAt [] (bag ∷ bags) = ⊥
  AdmitEachAt (child ∷ children) [] = ⊥
  AdmitEachAt (child ∷ children) (bag ∷ bags) = AdmitsAt child.0 bag × AdmitEachAt children bags

  -- an expression of a group has children of smaller numbers, and of all bags that these admit its operator makes a bag that the
  -- group admits
  pub record ExprStands (number : ℕ) (expr : Expr) : Type 0 where
    pub smaller : AllByRecursion (λ child. child.0 < number) expr.children
    pub admitted : (bags : List (List Env)) → AdmitEachAt expr.children bags → AdmitsAt number (given database expr.op bags)

  -- each expression of each group stands for it
  abbrev pub EachExprStands : List Group → Type 0
  EachExprStands groups = (number : ℕ) (group : Group) → slice_get groups number ≡ Some group → AllByRecursion (ExprStands number) group.exprs
