-- How many nodes of each kind stand in a tree.
use Rattle.std.specs.Prelude.{ℕ, ◌+◌, ◌-◌, List, length}
use Rattle.std.specs.List.{sum_by}
use Rattle.pdw_algebra.specs.declared.tree.Tree.{Tree}
use Rattle.pdw_algebra.specs.declared.tree.Tree.TheOpen.{Tree-F}
use Rattle.pdw_algebra.specs.declared.tree.Tree.TheFolds.{fold-Tree}

pub record Nodes : Type 0 where
  pub scans : ℕ
  pub filters : ℕ
  pub projections : ℕ
  pub groups : ℕ
  pub blocks : ℕ
  -- the leaves of all blocks: conditions of a leaf alone may filter it
  pub leaves : ℕ
  -- the joins of two: a block is one fewer than it has leaves, and each join of another kind is one
  pub joins : ℕ

abbrev pub one_scan : Nodes
one_scan = record { scans = 1; filters = 0; projections = 0; groups = 0; blocks = 0; leaves = 0; joins = 0 }

-- of several trees side by side
abbrev pub all_nodes : List Nodes → Nodes
all_nodes trees = record {
  scans = sum_by (λ t. t.scans) trees;
  filters = sum_by (λ t. t.filters) trees;
  projections = sum_by (λ t. t.projections) trees;
  groups = sum_by (λ t. t.groups) trees;
  blocks = sum_by (λ t. t.blocks) trees;
  leaves = sum_by (λ t. t.leaves) trees;
  joins = sum_by (λ t. t.joins) trees;
}

abbrev pub block_nodes : ℕ → Nodes → Nodes
block_nodes count all = record {
  scans = all.scans;
  filters = all.filters;
  projections = all.projections;
  groups = all.groups;
  blocks = all.blocks + 1;
  leaves = all.leaves + count;
  joins = all.joins + (count - 1);
}

abbrev pub join_nodes : Nodes → Nodes → Nodes
join_nodes left right = record {
  scans = left.scans + right.scans;
  filters = left.filters + right.filters;
  projections = left.projections + right.projections;
  groups = left.groups + right.groups;
  blocks = left.blocks + right.blocks;
  leaves = left.leaves + right.leaves;
  joins = (left.joins + right.joins) + 1;
}

abbrev pub nodes_step : Tree-F Nodes → Nodes
nodes_step (Tree-F.Scan table alias cols) = one_scan
nodes_step (Tree-F.Filter conds child) = record child { filters = child.filters + 1 }
nodes_step (Tree-F.Project items child) = record child { projections = child.projections + 1 }
nodes_step (Tree-F.Block leaves conds) = block_nodes (length leaves) (all_nodes leaves)
nodes_step (Tree-F.Join kind conds left right) = join_nodes left right
nodes_step (Tree-F.GroupBy keys aggs child) = record child { groups = child.groups + 1 }

abbrev pub nodes : Tree → Nodes
nodes = fold-Tree Nodes nodes_step

-- the operators of a plan for a tree, moves of rows apart: its scans, a filter for each leaf, its joins, filters and
-- projections, and for its groups one operator over parts of the rows and one over what those give
abbrev pub operators : Nodes → ℕ
operators n = ((n.scans + n.leaves) + n.joins) + ((n.filters + n.projections) + (n.groups + n.groups))
