-- A node has the tree that it is made of.
use Rattle.std.proofs.Common.{◌≡◌, ℕ, List, [], ◌∷◌, map, refl, ap, ap₂, ◌∙◌}
use Rattle.std.specs.List.{AllByRecursion}
use Rattle.pdw_algebra.proofs.TreeFolds.{Inductive, by_trees, fold-block, fold-filter, fold-group, fold-join, fold-project, fold-scan}
use Rattle.pdw_algebra.specs.declared.tree.Tree.{Tree}
use Rattle.pdw_algebra.specs.declared.tree.Tree.TheVariants as tree
use Rattle.pdw_catalog.specs.Catalog.{Tables}
use Rattle.pdw_groups.specs.Node.{Node, node_of, node_step}
use Rattle.pdw_groups.specs.declared.block.Level.{Level}

abbrev tree_in : Node → Tree
tree_in node = node.tree

module _ (tables : Tables) (levels : ℕ → Level) where
  abbrev SameTree : Tree → Type 0
  SameTree t = (node_of tables levels t).tree ≡ t

  pub trees-same : (leaves : List Tree) → AllByRecursion SameTree leaves → map tree_in (map (node_of tables levels) leaves) ≡ leaves
  trees-same [] all = refl
  trees-same (leaf ∷ leaves) all = ap₂ (λ a b. a ∷ b) all.0 (trees-same leaves all.1)

  cases : Inductive SameTree
  cases = record {
    scan = λ table alias cols. ap tree_in (fold-scan (node_step tables levels) table alias cols);
    filter = λ conds child same. ap tree_in (fold-filter (node_step tables levels) conds child) ∙ ap (tree.Filter conds) same;
    project = λ items child same. ap tree_in (fold-project (node_step tables levels) items child) ∙ ap (tree.Project items) same;
    block = λ leaves conds all. ap tree_in (fold-block (node_step tables levels) leaves conds) ∙ ap (λ parts. tree.Block parts conds) (trees-same leaves all);
    join = λ kind conds left right first second. ap tree_in (fold-join (node_step tables levels) kind conds left right) ∙ ap₂ (tree.Join kind conds) first second;
    group = λ keys aggs child same. ap tree_in (fold-group (node_step tables levels) keys aggs child) ∙ ap (tree.GroupBy keys aggs) same;
  }

  pub node-tree : (t : Tree) → SameTree t
  node-tree = by_trees SameTree cases
