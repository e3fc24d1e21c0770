-- The nodes of each operator by those of its children.
use Rattle.std.proofs.Common.{◌≡◌, ℕ, ◌+◌, List, length, map, Option, ap, ◌∙◌}
use Rattle.std.proofs.lemmas.List.{length-map}
use Rattle.pdw_algebra.specs.declared.tree.Tree.TheFolds.{fold-roll-Tree}
use Rattle.pdw_algebra.specs.declared.tree.Tree.TheOpen.{Tree-F}
use Rattle.pdw_algebra.specs.declared.tree.Tree.TheVariants as tree
use Rattle.pdw_algebra.specs.declared.tree.Tree.{Tree}
use Rattle.pdw_base.specs.declared.schema.ColId.{ColId}
use Rattle.pdw_bind.specs.Nodes.{Nodes, all_nodes, block_nodes, join_nodes, nodes, nodes_step, one_scan}
use Rattle.pdw_expr.specs.declared.agg.Agg.{Agg}
use Rattle.pdw_expr.specs.declared.agg.JoinKind.{JoinKind}
use Rattle.pdw_expr.specs.declared.cond.Cond.{Cond}
use Rattle.pdw_expr.specs.declared.scalar.Scalar.{Scalar}

pub nodes-scan : (table alias : List ℕ) (cols : List (ColId × ℕ)) → nodes (tree.Scan table alias cols) ≡ one_scan
unfolding Rattle.pdw_algebra.specs.declared.tree.Tree.TheViews.roll-Tree denote.Hole.Carrier.roll
nodes-scan table alias cols = fold-roll-Tree Nodes nodes_step (Tree-F.Scan table alias cols)

pub nodes-filter : (conds : List Cond) (child : Tree) → nodes (tree.Filter conds child) ≡ record (nodes child) { filters = (nodes child).filters + 1 }
unfolding Rattle.pdw_algebra.specs.declared.tree.Tree.TheViews.roll-Tree denote.Hole.Carrier.roll
nodes-filter conds child = fold-roll-Tree Nodes nodes_step (Tree-F.Filter conds child)

pub nodes-project : (items : List (ColId × Option Scalar)) (child : Tree) → nodes (tree.Project items child) ≡ record (nodes child) { projections = (nodes child).projections + 1 }
unfolding Rattle.pdw_algebra.specs.declared.tree.Tree.TheViews.roll-Tree denote.Hole.Carrier.roll
nodes-project items child = fold-roll-Tree Nodes nodes_step (Tree-F.Project items child)

pub nodes-block : (leaves : List Tree) (conds : List Cond) → nodes (tree.Block leaves conds) ≡ block_nodes (length leaves) (all_nodes (map nodes leaves))
unfolding Rattle.pdw_algebra.specs.declared.tree.Tree.TheViews.roll-Tree denote.Hole.Carrier.roll
nodes-block leaves conds =
    fold-roll-Tree Nodes nodes_step (Tree-F.Block leaves conds)
    ∙ ap (λ count. block_nodes count (all_nodes (map nodes leaves))) (length-map leaves nodes)

pub nodes-join : (kind : JoinKind) (conds : List Cond) (left right : Tree) → nodes (tree.Join kind conds left right) ≡ join_nodes (nodes left) (nodes right)
unfolding Rattle.pdw_algebra.specs.declared.tree.Tree.TheViews.roll-Tree denote.Hole.Carrier.roll
nodes-join kind conds left right = fold-roll-Tree Nodes nodes_step (Tree-F.Join kind conds left right)

pub nodes-groups : (keys : List ColId) (aggs : List Agg) (child : Tree) → nodes (tree.GroupBy keys aggs child) ≡ record (nodes child) { groups = (nodes child).groups + 1 }
unfolding Rattle.pdw_algebra.specs.declared.tree.Tree.TheViews.roll-Tree denote.Hole.Carrier.roll
nodes-groups keys aggs child = fold-roll-Tree Nodes nodes_step (Tree-F.GroupBy keys aggs child)
