-- A tree weighs at most as many operators as a plan needs for it, its moves apart.
use Rattle.std.proofs.Common.{◌≡◌, ◌≤◌, ◌+◌, ◌*◌, ℕ, List, [], ◌∷◌, length, map, ap, arith}
use Rattle.std.specs.List.{AllByRecursion}
use Rattle.std.proofs.lemmas.List.Sums.{sum_by-cons}
use Rattle.pdw_algebra.proofs.TreeFolds.{Inductive, by_trees, fold-block, fold-filter, fold-group, fold-join, fold-project, fold-scan}
use Rattle.pdw_algebra.specs.declared.tree.Tree.{Tree}
use Rattle.pdw_algebra.specs.declared.tree.Tree.TheVariants as tree
use Rattle.pdw_base.specs.SameBag.{weigh}
use Rattle.pdw_bind.specs.Nodes.{Nodes, all_nodes, nodes, nodes_step, operators}
use Rattle.pdw_memo.proofs.Weights.{block-weight, tree_weight, weight_step}

abbrev IsCovered : Tree → Type 0
IsCovered t = tree_weight t ≤ operators (nodes t)

from-layer : (t : Tree) (weight : ℕ) (kinds : Nodes) → tree_weight t ≡ weight → nodes t ≡ kinds → weight ≤ operators kinds → IsCovered t
from-layer t weight kinds is_weight is_kinds most =
    let equal = ap operators is_kinds in
    omega (arith, is_weight, equal, most)

leaves-covered : (leaves : List Tree) → AllByRecursion IsCovered leaves → weigh (λ t. tree_weight t + 2) leaves ≤ operators (all_nodes (map nodes leaves)) + 2 * length (map nodes leaves)
leaves-covered [] all = omega arith
leaves-covered (leaf ∷ leaves) all =
    let here = all.0 in
    let rest = leaves-covered leaves all.1 in
    let scans = sum_by-cons (λ (n : Nodes). n.scans) (nodes leaf) (map nodes leaves) in
    let filters = sum_by-cons (λ (n : Nodes). n.filters) (nodes leaf) (map nodes leaves) in
    let projections = sum_by-cons (λ (n : Nodes). n.projections) (nodes leaf) (map nodes leaves) in
    let groups = sum_by-cons (λ (n : Nodes). n.groups) (nodes leaf) (map nodes leaves) in
    let inner = sum_by-cons (λ (n : Nodes). n.leaves) (nodes leaf) (map nodes leaves) in
    let joins = sum_by-cons (λ (n : Nodes). n.joins) (nodes leaf) (map nodes leaves) in
    omega (arith, here, rest, scans, filters, projections, groups, inner, joins)

cases : Inductive IsCovered
cases = record {
  scan = λ table alias cols. from-layer (tree.Scan table alias cols) _ _ (fold-scan weight_step table alias cols) (fold-scan nodes_step table alias cols) (omega arith);
  filter = λ conds child holds. from-layer (tree.Filter conds child) _ _ (fold-filter weight_step conds child) (fold-filter nodes_step conds child) (omega (arith, holds));
  project = λ items child holds. from-layer (tree.Project items child) _ _ (fold-project weight_step items child) (fold-project nodes_step items child) (omega (arith, holds));
  block = λ leaves conds all.
      from-layer (tree.Block leaves conds) _ _ (block-weight leaves conds) (fold-block nodes_step leaves conds) (let most = leaves-covered leaves all in omega (arith, most));
  join = λ kind conds left right first second.
      from-layer (tree.Join kind conds left right) _ _ (fold-join weight_step kind conds left right) (fold-join nodes_step kind conds left right) (omega (arith, first, second));
  group = λ keys aggs child holds. from-layer (tree.GroupBy keys aggs child) _ _ (fold-group weight_step keys aggs child) (fold-group nodes_step keys aggs child) (omega (arith, holds));
}

-- a filter for each leaf, the joins of a block one fewer than its leaves, and two operators for each grouping
pub tree-operators : (t : Tree) → tree_weight t ≤ operators (nodes t)
tree-operators = by_trees IsCovered cases
