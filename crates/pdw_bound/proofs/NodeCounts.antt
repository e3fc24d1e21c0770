-- A tree has no more nodes than its nodes of each kind together.
use Rattle.std.proofs.Common.{◌≡◌, ℕ, ◌+◌, ◌≤◌, List, [], ◌∷◌, map, sum, ap, arith}
use Rattle.std.specs.List.{AllByRecursion}
use Rattle.std.proofs.lemmas.List.Sums.{sum_by-cons}
use Rattle.pdw_algebra.proofs.TreeFolds.{Inductive, by_trees, fold-block, fold-filter, fold-group, fold-join, fold-project, fold-scan}
use Rattle.pdw_algebra.specs.declared.tree.Tree.{Tree}
use Rattle.pdw_algebra.specs.declared.tree.Tree.TheVariants as tree
use Rattle.pdw_bind.specs.Nodes.{Nodes, all_nodes, nodes, nodes_step}
use Rattle.pdw_memo.proofs.Counts.{sum-cons}
use Rattle.pdw_memo.specs.Memo.{count_step, node_count}

-- a block's joins are counted too
abbrev pub nodes_in : Nodes → ℕ
nodes_in n = (((n.scans + n.filters) + (n.projections + n.groups)) + n.blocks) + n.joins

abbrev IsCounted : Tree → Type 0
IsCounted t = node_count t ≤ nodes_in (nodes t)

from_layer : (t : Tree) (count : ℕ) (kinds : Nodes) → node_count t ≡ count → nodes t ≡ kinds → count ≤ nodes_in kinds → IsCounted t
from_layer t count kinds is_count is_kinds most =
    let equal = ap nodes_in is_kinds in
    omega (arith, is_count, equal, most)

leaves-counted : (leaves : List Tree) → AllByRecursion IsCounted leaves → sum (map node_count leaves) ≤ nodes_in (all_nodes (map nodes leaves))
leaves-counted [] all = omega arith
leaves-counted (leaf ∷ leaves) all =
    let here = all.0 in
    let rest = leaves-counted leaves all.1 in
    let count = sum-cons (node_count leaf) (map node_count leaves) in
    let scans = sum_by-cons (λ (n : Nodes). n.scans) (nodes leaf) (map nodes leaves) in
    let filters = sum_by-cons (λ (n : Nodes). n.filters) (nodes leaf) (map nodes leaves) in
    let projections = sum_by-cons (λ (n : Nodes). n.projections) (nodes leaf) (map nodes leaves) in
    let groups = sum_by-cons (λ (n : Nodes). n.groups) (nodes leaf) (map nodes leaves) in
    let blocks = sum_by-cons (λ (n : Nodes). n.blocks) (nodes leaf) (map nodes leaves) in
    let joins = sum_by-cons (λ (n : Nodes). n.joins) (nodes leaf) (map nodes leaves) in
    omega (arith, here, rest, count, scans, filters, projections, groups, blocks, joins)

cases : Inductive IsCounted
cases = record {
  scan = λ table alias cols. from_layer (tree.Scan table alias cols) _ _ (fold-scan count_step table alias cols) (fold-scan nodes_step table alias cols) (omega arith);
  filter = λ conds child holds. from_layer (tree.Filter conds child) _ _ (fold-filter count_step conds child) (fold-filter nodes_step conds child) (omega (arith, holds));
  project = λ items child holds. from_layer (tree.Project items child) _ _ (fold-project count_step items child) (fold-project nodes_step items child) (omega (arith, holds));
  block = λ leaves conds all.
      from_layer (tree.Block leaves conds) _ _ (fold-block count_step leaves conds) (fold-block nodes_step leaves conds) (let most = leaves-counted leaves all in omega (arith, most));
  join = λ kind conds left right first second.
      from_layer (tree.Join kind conds left right) _ _ (fold-join count_step kind conds left right) (fold-join nodes_step kind conds left right) (omega (arith, first, second));
  group = λ keys aggs child holds. from_layer (tree.GroupBy keys aggs child) _ _ (fold-group count_step keys aggs child) (fold-group nodes_step keys aggs child) (omega (arith, holds));
}

pub node-counts : (t : Tree) → node_count t ≤ nodes_in (nodes t)
node-counts = by_trees IsCounted cases
