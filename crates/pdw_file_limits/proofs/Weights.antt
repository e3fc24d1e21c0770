-- Each group of a tree's memo weighs at most what the tree does, whatever levels its blocks have, and its schema is by rising
-- numbers.
use Rattle.std.proofs.Common.{◌≡◌, ℕ, suc, ◌+◌, ◌-◌, ◌^◌, ◌≤◌, List, [], ◌∷◌, ◌++◌, map, filter, length, sym, ap, subst, ◌∙◌, arith}
use Rattle.std.specs.List.{AllByRecursion}
use Rattle.pdw_algebra.proofs.AllLaws.{all-append, all-map}
use Rattle.pdw_algebra.proofs.PlacedLemmas.{rising-schema}
use Rattle.pdw_algebra.proofs.TreeFolds.{Inductive, by_trees, fold-block, fold-filter, fold-group, fold-join, fold-project, fold-scan}
use Rattle.pdw_algebra.specs.Schema.{rising}
use Rattle.pdw_algebra.specs.Shape.{columns_of, key_column}
use Rattle.pdw_algebra.specs.declared.tree.Tree.{Tree}
use Rattle.pdw_algebra.specs.declared.tree.Tree.TheVariants as tree
use Rattle.pdw_base.specs.SameBag.{weigh}
use Rattle.pdw_base.specs.Schema.{Columns, IsAscending}
use Rattle.pdw_base.specs.declared.schema.ColId.{ColId}
use Rattle.pdw_catalog.specs.Catalog.{Tables, table_named}
use Rattle.pdw_expr.specs.declared.agg.Agg.{Agg}
use Rattle.pdw_expr.specs.declared.cond.Cond.{Cond}
use Rattle.pdw_groups.specs.Block.{BlockLeaf, block_groups, columns_of_leaves, inside_leaf, second_group, second_groups, seconds, set_group}
use Rattle.pdw_groups.specs.Columns.{hash_in, partial_column, replicated_in}
use Rattle.pdw_groups.specs.Group.{GroupOf}
use Rattle.pdw_groups.specs.Level.{below, has_set, set_of}
use Rattle.pdw_groups.specs.Node.{Before, Node, block_leaves, block_node, groups_in_turn, grouping_groups, grouping_node, node_of, node_step, operator_node, own_block_groups, own_in_turn, passed, passed_all, schema_of_tree, whole_group}
use Rattle.pdw_groups.specs.declared.block.Level.{Level}
use Rattle.pdw_groups.specs.declared.op.Op.{Op}
use Rattle.pdw_groups.specs.declared.op.Op.TheVariants as op
use Rattle.pdw_memo.proofs.Weights.{LightTo, block-light, block-weight, child_weight, each-under, leaf_weight, tree_weight, weight_step}
use Rattle.pdw_parts.specs.Part.{columns_in}

abbrev Ascends : GroupOf → Type 0
Ascends group = IsAscending group.schema

-- a group of at most this weight, with a schema by rising numbers
pub record Fits (most : ℕ) (group : GroupOf) : Type 0 where
  pub light : LightTo most group
  pub ascending : IsAscending group.schema

fits-both : (most : ℕ) (groups : List GroupOf) → AllByRecursion (LightTo most) groups → AllByRecursion Ascends groups → AllByRecursion (Fits most) groups
fits-both most [] light ascend = tt
fits-both most (group ∷ groups) light ascend = (record { light = light.0; ascending = ascend.0 }, fits-both most groups light.1 ascend.1)

pub fits-more : (less most : ℕ) → less ≤ most → (group : GroupOf) → Fits less group → Fits most group
fits-more less most le group fits = record {
  light = record { few = let few = fits.light.few in omega (arith, le, few); each = fits.light.each };
  ascending = fits.ascending;
}

ascends : (columns : Columns) → IsAscending (rising columns)
ascends columns = (rising-schema columns).ascending

-- ---- the groups of a block

second-ascends : (block place : ℕ) (leaf : BlockLeaf) (some : List Cond) → IsAscending leaf.columns → AllByRecursion Ascends (second_group block place leaf some)
second-ascends block place leaf [] up = tt
second-ascends block place leaf (first ∷ rest) up = (up, tt)

seconds-ascend : (block : ℕ) (conds : List Cond) (place : ℕ) (leaves : List BlockLeaf) → AllByRecursion (λ (leaf : BlockLeaf). IsAscending leaf.columns) leaves → AllByRecursion Ascends (second_groups block conds place leaves)
seconds-ascend block conds place [] all = tt
seconds-ascend block conds place (leaf ∷ leaves) all =
    all-append Ascends (second_group block place leaf (inside_leaf block conds leaf)) (second_groups block conds (suc place) leaves) (second-ascends block place leaf (inside_leaf block conds leaf) all.0)
    (seconds-ascend block conds (suc place) leaves all.1)

module _ (block : ℕ) (level : Level) (conds : List Cond) (leaves : List BlockLeaf) (first : ℕ) where
  sets-ascend : (masks : List ℕ) → AllByRecursion Ascends (map (set_group block level conds leaves first) masks)
  sets-ascend [] = tt
  sets-ascend (mask ∷ masks) = (ascends (columns_in (set_of mask) (columns_of_leaves block level conds leaves first)), sets-ascend masks)

  block-ascends : AllByRecursion (λ (leaf : BlockLeaf). IsAscending leaf.columns) leaves → AllByRecursion Ascends (block_groups block level conds leaves first)
  block-ascends all =
      all-append Ascends (seconds block level conds leaves first) (map (set_group block level conds leaves first) (filter (has_set level) (below (2 ^ length leaves)))) (seconds-ascend block conds 0 leaves all)
      (sets-ascend (filter (has_set level) (below (2 ^ length leaves))))

-- ---- the groups of a node

abbrev node_weight : Node → ℕ
node_weight node = tree_weight node.tree

abbrev AllFit : Node → Type 0
AllFit node = (before : Before) → AllByRecursion (Fits (node_weight node)) (node.groups before)

turn-fits : (most : ℕ) (nodes : List Node) → AllByRecursion (λ node. node_weight node ≤ most) nodes → AllByRecursion AllFit nodes → (before : Before) → AllByRecursion (Fits most) (groups_in_turn nodes before)
turn-fits most [] few all before = tt
turn-fits most (node ∷ nodes) few all before =
    all-append (Fits most) (node.groups before) (groups_in_turn nodes (passed before node))
    (all-map (Fits (node_weight node)) (Fits most) (fits-more (node_weight node) most few.0) (node.groups before) (all.0 before))
    (turn-fits most nodes few.1 all.1 (passed before node))

own-weight : (nodes : List Node) (before : Before) → weigh child_weight (own_in_turn nodes before) ≡ weigh node_weight nodes
own-weight [] before = omega arith
own-weight (node ∷ nodes) before = ap (λ n. node_weight node + n) (own-weight nodes (passed before node))

module _ (tables : Tables) (levels : ℕ → Level) where
  operator-fits : (t : Tree) (operator : Op) (nodes : List Node) → suc (weigh node_weight nodes) ≤ tree_weight t → AllByRecursion AllFit nodes
      → (before : Before) → AllByRecursion (Fits (tree_weight t)) ((operator_node tables levels t operator nodes).groups before)
  operator-fits t operator nodes le all before =
      let own = own-weight nodes before in
      all-append (Fits (tree_weight t)) (groups_in_turn nodes before) (whole_group tables levels (passed_all before nodes).operators t (record { operator = operator; children = own_in_turn nodes before } ∷ []) ∷ [])
      (turn-fits (tree_weight t) nodes (each-under node_weight nodes (tree_weight t) (omega (arith, le))) all before)
      (record { light = record { few = omega arith; each = (omega (arith, le, own), tt) }; ascending = ascends (columns_of tables t) }, tt)

  grouping-fits : (keys : List ColId) (aggs : List Agg) (child : Node) → AllFit child → AllFit (grouping_node tables levels keys aggs child)
  grouping-fits keys aggs child fits before =
      let most = tree_weight (tree.GroupBy keys aggs child.tree) in
      let is : most ≡ node_weight child + 2 = fold-group weight_step keys aggs child.tree in
      let columns = schema_of_tree tables levels child.tree in
      all-append (Fits most) (child.groups before) (grouping_groups tables levels keys aggs child before)
      (all-map (Fits (node_weight child)) (Fits most) (fits-more (node_weight child) most (omega (arith, is))) (child.groups before) (fits before)) (
        record { light = record { few = omega (arith, is); each = (omega arith, tt) }; ascending = ascends (map (key_column columns) keys ++ map (partial_column columns) aggs) },
        (record { light = record { few = omega arith; each = (omega (arith, is), (omega (arith, is), tt)) }; ascending = ascends (columns_of tables (tree.GroupBy keys aggs child.tree)) }, tt),
      )

  leaves-weight : (nodes : List Node) (before : Before) → weigh leaf_weight (block_leaves tables levels nodes before) ≡ weigh (λ node. node_weight node + 2) nodes
  leaves-weight [] before = omega arith
  leaves-weight (node ∷ nodes) before = ap (λ n. (node_weight node + 2) + n) (leaves-weight nodes (passed before node))

  leaves-ascend : (nodes : List Node) (before : Before) → AllByRecursion (λ (leaf : BlockLeaf). IsAscending leaf.columns) (block_leaves tables levels nodes before)
  leaves-ascend [] before = tt
  leaves-ascend (node ∷ nodes) before = (ascends (columns_of tables node.tree), leaves-ascend nodes (passed before node))

  trees-weight : (nodes : List Node) → weigh (λ t. tree_weight t + 2) (map (λ (node : Node). node.tree) nodes) ≡ weigh (λ node. node_weight node + 2) nodes
  trees-weight [] = omega arith
  trees-weight (node ∷ nodes) = ap (λ n. (node_weight node + 2) + n) (trees-weight nodes)

  own-block : (conds : List Cond) (nodes : List Node) (before : Before) (most : ℕ) → weigh leaf_weight (block_leaves tables levels nodes before) - 1 ≡ most
      → AllByRecursion (Fits most) (own_block_groups tables levels conds nodes before)
  own-block conds nodes before most same =
      let after = passed_all before nodes in
      let leaves = block_leaves tables levels nodes before in
      fits-both most (own_block_groups tables levels conds nodes before)
      (subst (λ n. AllByRecursion (LightTo n) (own_block_groups tables levels conds nodes before)) same (block-light after.blocks conds (levels after.blocks) leaves after.groups))
      (block-ascends after.blocks (levels after.blocks) conds leaves after.groups (leaves-ascend nodes before))

  block-fits : (conds : List Cond) (nodes : List Node) → AllByRecursion AllFit nodes → AllFit (block_node tables levels conds nodes)
  block-fits conds nodes all before =
      let most = tree_weight (tree.Block (map (λ (node : Node). node.tree) nodes) conds) in
      let is : most ≡ weigh (λ node. node_weight node + 2) nodes - 1 = block-weight (map (λ (node : Node). node.tree) nodes) conds ∙ ap (λ n. n - 1) (trees-weight nodes) in
      let leaves = leaves-weight nodes before in
      all-append (Fits most) (groups_in_turn nodes before) (own_block_groups tables levels conds nodes before)
      (turn-fits most nodes
      (all-map (λ node. node_weight node + 2 ≤ suc most) (λ node. node_weight node ≤ most) (λ node le. omega (arith, le)) nodes (each-under (λ node. node_weight node + 2) nodes (suc most) (omega (arith, is)))) all before)
      (own-block conds nodes before most (omega (arith, is, leaves)))

  -- ---- any tree

  abbrev steps : Tree → Node
  steps = node_of tables levels

  abbrev TreeFits : Tree → Type 0
  TreeFits t = AllFit (steps t)

  leaves-fit : (leaves : List Tree) → AllByRecursion TreeFits leaves → AllByRecursion AllFit (map steps leaves)
  leaves-fit [] all = tt
  leaves-fit (leaf ∷ leaves) all = (all.0, leaves-fit leaves all.1)

  fits-cases : Inductive TreeFits
  fits-cases = record {
    scan = λ table alias cols.
        subst AllFit (sym (fold-scan (node_step tables levels) table alias cols))
        (operator-fits (tree.Scan table alias cols) (op.Scan table alias cols (hash_in (table_named table tables) cols) (replicated_in (table_named table tables))) []
        (let is = fold-scan weight_step table alias cols in omega (arith, is)) tt);
    filter = λ conds child fits.
        subst AllFit (sym (fold-filter (node_step tables levels) conds child))
        (operator-fits (tree.Filter conds (steps child).tree) (op.Filter conds) (steps child ∷ []) (let is = fold-filter weight_step conds (steps child).tree in omega (arith, is)) (fits, tt));
    project = λ items child fits.
        subst AllFit (sym (fold-project (node_step tables levels) items child))
        (operator-fits (tree.Project items (steps child).tree) (op.Project items) (steps child ∷ []) (let is = fold-project weight_step items (steps child).tree in omega (arith, is)) (fits, tt));
    block = λ leaves conds all. subst AllFit (sym (fold-block (node_step tables levels) leaves conds)) (block-fits conds (map steps leaves) (leaves-fit leaves all));
    join = λ kind conds left right first second.
        subst AllFit (sym (fold-join (node_step tables levels) kind conds left right))
        (operator-fits (tree.Join kind conds (steps left).tree (steps right).tree) (op.Join kind conds) (steps left ∷ steps right ∷ [])
        (let is = fold-join weight_step kind conds (steps left).tree (steps right).tree in omega (arith, is)) (first, (second, tt)));
    group = λ keys aggs child fits. subst AllFit (sym (fold-group (node_step tables levels) keys aggs child)) (grouping-fits keys aggs (steps child) fits);
  }

  pub tree-fits : (t : Tree) (before : Before) → AllByRecursion (Fits (tree_weight (steps t).tree)) ((steps t).groups before)
  tree-fits = by_trees TreeFits fits-cases
