-- The groups of a tree. Its nodes are walked children first, from left to right, and each adds its groups after theirs.
use Rattle.std.specs.Prelude.{ℕ, ◌+◌, ◌-◌, List, [], ◌∷◌, ◌++◌, length, map, fold, sum}
use Rattle.pdw_algebra.specs.Schema.{rising}
use Rattle.pdw_algebra.specs.Shape.{columns_of}
use Rattle.pdw_algebra.specs.declared.tree.Tree.{Tree}
use Rattle.pdw_algebra.specs.declared.tree.Tree.TheOpen.{Tree-F}
use Rattle.pdw_algebra.specs.declared.tree.Tree.TheFolds.{fold-Tree}
use Rattle.pdw_algebra.specs.declared.tree.Tree.TheVariants as tree
use Rattle.pdw_base.specs.Schema.{Columns}
use Rattle.pdw_base.specs.declared.schema.ColId.{ColId}
use Rattle.pdw_catalog.specs.Catalog.{Tables, table_named}
use Rattle.pdw_expr.specs.declared.agg.Agg.{Agg}
use Rattle.pdw_expr.specs.declared.cond.Cond.{Cond}
use Rattle.pdw_groups.specs.Block.{BlockLeaf, block_groups}
use Rattle.pdw_groups.specs.Columns.{hash_in, partial_schema, replicated_in}
use Rattle.pdw_groups.specs.Group.{Child, ExprOf, GroupOf, id_of}
use Rattle.pdw_groups.specs.Meaning.{exactly, partial_of}
use Rattle.pdw_groups.specs.declared.block.BlockPart.{BlockPart}
use Rattle.pdw_groups.specs.declared.block.Level.{Level}
use Rattle.pdw_groups.specs.declared.key.GroupKey.TheVariants as key
use Rattle.pdw_groups.specs.declared.op.Op.{Op}
use Rattle.pdw_groups.specs.declared.op.Op.TheVariants as op

-- how many blocks, other operators and groups stand before
pub record Before : Type 0 where
  pub blocks : ℕ
  pub operators : ℕ
  pub groups : ℕ

-- a node of a tree: the tree, how many blocks and other operators it has, and by what stands before it its groups and blocks
pub record Node : Type 0 where
  pub tree : Tree
  pub blocks : ℕ
  pub operators : ℕ
  pub groups : Before → List GroupOf
  pub parts : Before → List BlockPart

-- what stands before whatever comes after a node
abbrev pub passed : Before → Node → Before
passed before node = record {
  blocks = before.blocks + node.blocks;
  operators = before.operators + node.operators;
  groups = before.groups + length (node.groups before);
}

abbrev pub passed_all : Before → List Node → Before
passed_all before nodes = fold passed before nodes

-- ---- nodes one after the other

abbrev pub groups_in_turn : List Node → Before → List GroupOf
groups_in_turn [] before = []
groups_in_turn (node ∷ nodes) before = node.groups before ++ groups_in_turn nodes (passed before node)

abbrev pub parts_in_turn : List Node → Before → List BlockPart
parts_in_turn [] before = []
parts_in_turn (node ∷ nodes) before = node.parts before ++ parts_in_turn nodes (passed before node)

-- a node's own group is the last of its groups
abbrev pub own_group : Before → Node → Child
own_group before node = record { number = (before.groups + length (node.groups before)) - 1; means = exactly node.tree }

abbrev pub own_in_turn : List Node → Before → List Child
own_in_turn [] before = []
own_in_turn (node ∷ nodes) before = own_group before node ∷ own_in_turn nodes (passed before node)

abbrev pub blocks_in : List Node → ℕ
blocks_in nodes = sum (map (λ node. node.blocks) nodes)

abbrev pub operators_in : List Node → ℕ
operators_in nodes = sum (map (λ node. node.operators) nodes)

module _ (tables : Tables) (levels : ℕ → Level) where
  -- the schema of a tree's own group
  abbrev pub schema_of_tree : Tree → Columns
  schema_of_tree t = rising (columns_of tables t)

  -- ---- operators other than blocks

  -- the group of an operator over its children's own groups
  abbrev pub whole_group : ℕ → Tree → List ExprOf → GroupOf
  whole_group number t exprs = record { key = key.Whole number; means = exactly t; schema = schema_of_tree t; exprs = exprs }

  abbrev pub operator_node : Tree → Op → List Node → Node
  operator_node t operator children = record {
    tree = t;
    blocks = blocks_in children;
    operators = operators_in children + 1;
    groups = λ before. groups_in_turn children before
        ++ whole_group (passed_all before children).operators t (record { operator = operator; children = own_in_turn children before } ∷ []) ∷ [];
    parts = parts_in_turn children;
  }

  -- the group of the partial rows of a grouping
  abbrev pub partial_group : ℕ → List ColId → List Agg → Tree → Child → GroupOf
  partial_group number keys aggs t child = record {
    key = key.Partial number;
    means = partial_of keys aggs t;
    schema = partial_schema keys aggs (schema_of_tree t);
    exprs = record { operator = op.Partial keys aggs; children = child ∷ [] } ∷ [];
  }

  -- a grouping of its child's rows, or of their partial rows
  abbrev pub grouping_exprs : List ColId → List Agg → Child → Child → List ExprOf
  grouping_exprs keys aggs child partial =
      record { operator = op.GroupBy keys aggs; children = child ∷ [] } ∷ record { operator = op.Final keys aggs; children = partial ∷ [] } ∷ []

  abbrev pub grouping_groups : List ColId → List Agg → Node → Before → List GroupOf
  grouping_groups keys aggs child before =
      partial_group (passed before child).operators keys aggs child.tree (own_group before child)
      ∷ whole_group (passed before child).operators (tree.GroupBy keys aggs child.tree)
      (grouping_exprs keys aggs (own_group before child) (record { number = (passed before child).groups; means = partial_of keys aggs child.tree }))
      ∷ []

  abbrev pub grouping_node : List ColId → List Agg → Node → Node
  grouping_node keys aggs child = record {
    tree = tree.GroupBy keys aggs child.tree;
    blocks = child.blocks;
    operators = child.operators + 1;
    groups = λ before. child.groups before ++ grouping_groups keys aggs child before;
    parts = child.parts;
  }

  -- ---- blocks

  abbrev pub block_leaves : List Node → Before → List BlockLeaf
  block_leaves [] before = []
  block_leaves (node ∷ nodes) before =
      record { number = (own_group before node).number; tree = node.tree; columns = schema_of_tree node.tree } ∷ block_leaves nodes (passed before node)

  -- a block has the number of the blocks before it
  abbrev pub own_block_groups : List Cond → List Node → Before → List GroupOf
  own_block_groups conds leaves before =
      block_groups (passed_all before leaves).blocks (levels (passed_all before leaves).blocks) conds (block_leaves leaves before) (passed_all before leaves).groups

  abbrev pub own_part : List Cond → List Node → Before → BlockPart
  own_part conds leaves before = record { leaves = map id_of (own_in_turn leaves before); conds = conds; level = levels (passed_all before leaves).blocks }

  abbrev pub block_node : List Cond → List Node → Node
  block_node conds leaves = record {
    tree = tree.Block (map (λ leaf. leaf.tree) leaves) conds;
    blocks = blocks_in leaves + 1;
    operators = operators_in leaves;
    groups = λ before. groups_in_turn leaves before ++ own_block_groups conds leaves before;
    parts = λ before. parts_in_turn leaves before ++ own_part conds leaves before ∷ [];
  }

  -- ---- any tree

  abbrev pub node_step : Tree-F Node → Node
  node_step (Tree-F.Scan table alias cols) =
      operator_node (tree.Scan table alias cols) (op.Scan table alias cols (hash_in (table_named table tables) cols) (replicated_in (table_named table tables))) []
  node_step (Tree-F.Filter conds child) = operator_node (tree.Filter conds child.tree) (op.Filter conds) (child ∷ [])
  node_step (Tree-F.Project items child) = operator_node (tree.Project items child.tree) (op.Project items) (child ∷ [])
  node_step (Tree-F.Block leaves conds) = block_node conds leaves
  node_step (Tree-F.Join kind conds left right) = operator_node (tree.Join kind conds left.tree right.tree) (op.Join kind conds) (left ∷ right ∷ [])
  node_step (Tree-F.GroupBy keys aggs child) = grouping_node keys aggs child

  abbrev pub node_of : Tree → Node
  node_of = fold-Tree Node node_step
