-- What is made so far of a memo, and what the nodes of a tree add to it.
use Rattle.std.specs.Prelude.{ℕ, ◌+◌, ◌-◌, ◌*◌, ◌^◌, ◌<◌, List, [], ◌∷◌, ◌++◌, length, map}
use Rattle.pdw_algebra.specs.Schema.{rising}
use Rattle.pdw_algebra.specs.Shape.{columns_of}
use Rattle.pdw_algebra.specs.declared.tree.Tree.{Tree}
use Rattle.pdw_base.specs.Schema.{Columns}
use Rattle.pdw_base.specs.declared.schema.ColId.{ColId}
use Rattle.pdw_catalog.specs.Catalog.{Tables}
use Rattle.pdw_expr.specs.declared.agg.Agg.{Agg}
use Rattle.pdw_expr.specs.declared.cond.Cond.{Cond}
use Rattle.pdw_groups.specs.Columns.{interesting_in, partial_schema}
use Rattle.pdw_groups.specs.Group.{kept_group}
use Rattle.pdw_groups.specs.Memo.{all_written}
use Rattle.pdw_groups.specs.Node.{Before, Node, block_leaves, node_of}
use Rattle.pdw_groups.specs.Sets.{kept_block, side_of}
use Rattle.pdw_groups.specs.declared.block.Level.TheVariants as level
use Rattle.pdw_groups.specs.declared.group.Expr.{Expr}
use Rattle.pdw_groups.specs.declared.group.Group.{Group}
use Rattle.pdw_groups.specs.declared.key.GroupId.{GroupId}
use Rattle.pdw_groups.specs.declared.key.GroupKey.{GroupKey}
use Rattle.pdw_groups.specs.declared.key.GroupKey.TheVariants as key
use Rattle.pdw_groups.specs.declared.op.Op.TheVariants as op
use Rattle.pdw_groups.specs.declared.sets.Side.{Side}
use Rattle.pdw_memo.specs.declared.building.Building.{Building}

-- how much stands before the next node
abbrev pub made_before : Building → Before
made_before building = record { blocks = length building.blocks; operators = building.operators; groups = length building.groups }

-- numbers are left for a tree of so many nodes, each of at most 1,034 groups
pub record HasRoom (building : Building) (count : ℕ) : Type 0 where
  pub groups : length building.groups + 1034 * count < 2 ^ 32
  pub blocks : length building.blocks + count < 2 ^ 32
  pub operators : building.operators + count < 2 ^ 32

-- the last group, which is the own group of the node that was added last
abbrev pub last : Building → GroupId
last building = record { 0 = length building.groups - 1 }

-- ---- whole nodes

-- with a node's groups and blocks
abbrev pub with_node : List ColId → Building → Node → Building
with_node useful building node = record {
  groups = building.groups ++ map (kept_group useful) (node.groups (made_before building));
  blocks = building.blocks ++ node.parts (made_before building);
  operators = building.operators + node.operators;
}

-- the node of a tree where every block is joined as it is written
abbrev pub written : Tables → Tree → Node
written tables tree = node_of tables all_written tree

abbrev pub with_tree : Tables → List ColId → Building → Tree → Building
with_tree tables useful building tree = with_node useful building (written tables tree)

-- the own groups of trees one after the other
abbrev pub sides_of : Tables → Building → List Tree → List Side
sides_of tables building trees = map side_of (block_leaves tables all_written (map (written tables) trees) (made_before building))

-- ---- what a node adds after its children

abbrev pub schema_of_tree : Tables → Tree → Columns
schema_of_tree tables tree = rising (columns_of tables tree)

abbrev pub useful_group : List ColId → GroupKey → Columns → List Expr → Group
useful_group useful key schema exprs = record { key = key; schema = schema; interesting = interesting_in useful schema; exprs = exprs }

-- the group of an operator other than a block
abbrev pub with_operator : List ColId → Columns → List Expr → Building → Building
with_operator useful schema exprs building = record {
  groups = building.groups ++ useful_group useful (key.Whole building.operators) schema exprs ∷ [];
  blocks = building.blocks;
  operators = building.operators + 1;
}

-- the partial rows of the operator that comes next
abbrev pub with_partial : List ColId → Columns → List Expr → Building → Building
with_partial useful schema exprs building = record {
  groups = building.groups ++ useful_group useful (key.Partial building.operators) schema exprs ∷ [];
  blocks = building.blocks;
  operators = building.operators;
}

-- the groups of a block, after those of its leaves
abbrev pub with_block : List ColId → List Side → List Cond → Building → Building
with_block useful sides conds building = record {
  groups = building.groups ++ kept_block useful (length building.blocks) level.Written sides conds (length building.groups);
  blocks = building.blocks ++ record { leaves = map (λ side. side.group) sides; conds = conds; level = level.Written } ∷ [];
  operators = building.operators;
}

-- the grouping of the last group, which is the own one of a tree: first of its partial rows
abbrev pub with_partial_rows : Tables → List ColId → List ColId → List Agg → Tree → Building → Building
with_partial_rows tables useful keys aggs child building =
    with_partial useful (partial_schema keys aggs (schema_of_tree tables child)) (record { op = op.Partial keys aggs; children = last building ∷ [] } ∷ []) building

abbrev pub with_grouping : Tables → List ColId → Tree → List ColId → List Agg → Tree → Building → Building
with_grouping tables useful tree keys aggs child building =
    with_operator useful (schema_of_tree tables tree)
    (record { op = op.GroupBy keys aggs; children = last building ∷ [] }
    ∷ record { op = op.Final keys aggs; children = last (with_partial_rows tables useful keys aggs child building) ∷ [] } ∷ [])
    (with_partial_rows tables useful keys aggs child building)
