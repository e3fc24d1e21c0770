-- The groups of the memo of a sound tree that makes columns of low numbers alone have such columns alone.
use Rattle.std.proofs.Common.{◌==◌, ◌^◌, ℕ, suc, Bool, true, false, List, [], ◌∷◌, ◌++◌, map, filter, fold, length, nat_le, refl, sym, subst, if◌then◌else◌}
use Rattle.std.specs.List.{AllByRecursion, flat_map, list_any}
use Rattle.pdw_algebra.proofs.AllLaws.{all-append}
use Rattle.pdw_algebra.proofs.TreeFolds.{Inductive, by_trees, fold-block, fold-filter, fold-group, fold-join, fold-project, fold-scan}
use Rattle.pdw_algebra.specs.Schema.{placed, rising}
use Rattle.pdw_algebra.specs.Shape.{columns_of, key_column, shape_of, shape_step}
use Rattle.pdw_algebra.specs.declared.tree.Tree.{Tree}
use Rattle.pdw_algebra.specs.declared.tree.Tree.TheVariants as tree
use Rattle.pdw_base.specs.Schema.{Columns}
use Rattle.pdw_base.specs.declared.schema.ColId.{ColId}
use Rattle.pdw_base.specs.declared.value.Kind.{Kind}
use Rattle.pdw_catalog.specs.Catalog.{Tables, table_named}
use Rattle.pdw_expr.specs.declared.agg.Agg.{Agg}
use Rattle.pdw_expr.specs.declared.cond.Cond.{Cond}
use Rattle.pdw_file_limits.proofs.TreeColumns.{AllLow, AreLow, ColumnLow, IsLow, Makes, grouped-low, makes-child, makes-filter, makes-leaves, makes-project, makes-sides, tree-low}
use Rattle.pdw_groups.proofs.NodeTree.{node-tree}
use Rattle.pdw_groups.specs.Block.{BlockLeaf, block_groups, columns_of_leaves, inside_leaf, second_group, second_groups, seconds, set_group}
use Rattle.pdw_groups.specs.Columns.{hash_in, interesting_in, numbers_of, or_first, partial_column, replicated_in, useful_columns}
use Rattle.pdw_groups.specs.Group.{GroupOf, kept_group}
use Rattle.pdw_groups.specs.Level.{below, has_set, set_of}
use Rattle.pdw_groups.specs.Memo.{at_first, groups_of, memo_of}
use Rattle.pdw_groups.specs.Node.{Before, Node, block_leaves, block_node, groups_in_turn, grouping_groups, grouping_node, node_of, node_step, operator_node, own_block_groups, own_in_turn, passed, passed_all, schema_of_tree, whole_group}
use Rattle.pdw_groups.specs.declared.block.Level.{Level}
use Rattle.pdw_groups.specs.declared.group.Group.{Group}
use Rattle.pdw_groups.specs.declared.op.Op.{Op}
use Rattle.pdw_groups.specs.declared.op.Op.TheVariants as op
use Rattle.pdw_memo.proofs.Counts.{filter-all, map-all}
use Rattle.pdw_parts.specs.Part as parts
use Rattle.pdw_parts.specs.Part.{LeafSet, chosen}

abbrev tree_in : Node → Tree
tree_in node = node.tree

module _ (limit : ℕ) where
  -- ---- columns by rising numbers, and the interesting ones of them

  low-placed : (new : ColId × Kind) → ColumnLow limit new → (columns : Columns) → AreLow limit columns → AreLow limit (placed new columns)
  low-placed new here [] low = (here, tt)
  low-placed new here (first ∷ rest) low = by (nat_le new.0.0 first.0.0) (first.0.0 == new.0.0) (low-placed new here rest low.1)
    where
      by : (from same : Bool) → AreLow limit (placed new rest) → AreLow limit (if from then (if same then first ∷ rest else new ∷ first ∷ rest) else first ∷ placed new rest)
      by true true later = low
      by true false later = (here, low)
      by false same later = (low.0, later)

  low-rising : (columns : Columns) → AreLow limit columns → AreLow limit (rising columns)
  low-rising columns low = from [] columns tt low
    where
      from : (seen columns : Columns) → AreLow limit seen → AreLow limit columns → AreLow limit (fold (λ seen column. placed column seen) seen columns)
      from seen [] before low = before
      from seen (column ∷ columns) before low = from (placed column seen) columns (low-placed column low.0 seen before) low.1

  first-low : (some all : List ColId) → AllLow limit some → AllLow limit all → AllLow limit (or_first some all)
  first-low [] [] some all = tt
  first-low [] (first ∷ rest) some all = (all.0, tt)
  first-low (c ∷ rest) others some all = some

  interesting-low : (useful : List ColId) (schema : Columns) → AreLow limit schema → AllLow limit (interesting_in useful schema)
  interesting-low useful schema low =
      let numbers = map-all (ColumnLow limit) (IsLow limit) (λ (column : ColId × Kind). column.0) (λ column low. low) schema low in
      let test = λ (c : ColId). list_any (λ (u : ColId). u.0 == c.0) useful in
      first-low (filter test (numbers_of schema)) (numbers_of schema) (filter-all (IsLow limit) test (numbers_of schema) numbers) numbers

  -- ---- the groups of a block

  abbrev LowGroup : GroupOf → Type 0
  LowGroup group = AreLow limit group.schema

  abbrev LowLeaf : BlockLeaf → Type 0
  LowLeaf leaf = AreLow limit leaf.columns

  second-low : (block place : ℕ) (leaf : BlockLeaf) (some : List Cond) → LowLeaf leaf → AllByRecursion LowGroup (second_group block place leaf some)
  second-low block place leaf [] low = tt
  second-low block place leaf (first ∷ rest) low = (low, tt)

  seconds-low : (block : ℕ) (conds : List Cond) (place : ℕ) (leaves : List BlockLeaf) → AllByRecursion LowLeaf leaves → AllByRecursion LowGroup (second_groups block conds place leaves)
  seconds-low block conds place [] all = tt
  seconds-low block conds place (leaf ∷ leaves) all =
      all-append LowGroup (second_group block place leaf (inside_leaf block conds leaf)) (second_groups block conds (suc place) leaves) (second-low block place leaf (inside_leaf block conds leaf) all.0)
      (seconds-low block conds (suc place) leaves all.1)

  chosen-low : (set : LeafSet) (leaves : List Columns) → AllByRecursion (AreLow limit) leaves → AreLow limit (parts.columns_in set leaves)
  chosen-low set [] all = tt
  chosen-low set (columns ∷ leaves) all = by (set 0) (chosen-low (λ i. set (suc i)) leaves all.1)
    where
      others : List Columns
      others = chosen (λ i. set (suc i)) leaves

      by : (here : Bool) → AreLow limit (flat_map (λ columns. columns) (chosen (λ i. set (suc i)) leaves))
          → AreLow limit (flat_map (λ columns. columns) (if here then columns ∷ chosen (λ i. set (suc i)) leaves else chosen (λ i. set (suc i)) leaves))
      by true later = all-append (ColumnLow limit) columns (flat_map (λ columns. columns) others) all.0 later
      by false later = later

  module _ (block : ℕ) (level : Level) (conds : List Cond) (leaves : List BlockLeaf) (first : ℕ) (low : AllByRecursion LowLeaf leaves) where
    sets-low : (masks : List ℕ) → AllByRecursion LowGroup (map (set_group block level conds leaves first) masks)
    sets-low [] = tt
    sets-low (mask ∷ masks) =
        let columns = columns_of_leaves block level conds leaves first in
        (low-rising (parts.columns_in (set_of mask) columns) (chosen-low (set_of mask) columns (map-all LowLeaf (AreLow limit) (λ (leaf : BlockLeaf). leaf.columns) (λ leaf low. low) leaves low)), sets-low masks)

    block-low : AllByRecursion LowGroup (block_groups block level conds leaves first)
    block-low =
        all-append LowGroup (seconds block level conds leaves first) (map (set_group block level conds leaves first) (filter (has_set level) (below (2 ^ length leaves)))) (seconds-low block conds 0 leaves low)
        (sets-low (filter (has_set level) (below (2 ^ length leaves))))

  -- ---- the groups of a node

  abbrev LowNode : Node → Type 0
  LowNode node = (before : Before) → AllByRecursion LowGroup (node.groups before)

  turn-low : (nodes : List Node) → AllByRecursion LowNode nodes → (before : Before) → AllByRecursion LowGroup (groups_in_turn nodes before)
  turn-low [] all before = tt
  turn-low (node ∷ nodes) all before = all-append LowGroup (node.groups before) (groups_in_turn nodes (passed before node)) (all.0 before) (turn-low nodes all.1 (passed before node))

  module _ (tables : Tables) (levels : ℕ → Level) where
    abbrev IsMade : Tree → Type 0
    IsMade t = Makes limit (shape_of tables t)

    own-low : (t : Tree) → IsMade t → AreLow limit (schema_of_tree tables levels t)
    own-low t makes = low-rising (columns_of tables t) (tree-low limit tables t makes)

    operator-low : (t : Tree) (operator : Op) (nodes : List Node) → IsMade t → AllByRecursion LowNode nodes → LowNode (operator_node tables levels t operator nodes)
    operator-low t operator nodes makes all before =
        all-append LowGroup (groups_in_turn nodes before) (whole_group tables levels (passed_all before nodes).operators t (record { operator = operator; children = own_in_turn nodes before } ∷ []) ∷ []) (turn-low nodes all before)
        (own-low t makes, tt)

    grouping-low : (keys : List ColId) (aggs : List Agg) (child : Node) → IsMade (tree.GroupBy keys aggs child.tree) → LowNode child → LowNode (grouping_node tables levels keys aggs child)
    grouping-low keys aggs child makes low before =
        let t = child.tree in
        let columns = schema_of_tree tables levels t in
        let partial =
        grouped-low limit keys aggs (shape_of tables t) (tree-low limit tables t) (subst (Makes limit) (fold-group (shape_step tables) keys aggs t) makes) (key_column columns) (λ key. refl) (partial_column columns) (λ agg. refl) in
        all-append LowGroup (child.groups before) (grouping_groups tables levels keys aggs child before) (low before)
        (low-rising (map (key_column columns) keys ++ map (partial_column columns) aggs) partial, (own-low (tree.GroupBy keys aggs t) makes, tt))

    leaves-low : (nodes : List Node) → AllByRecursion (Makes limit) (map (shape_of tables) (map tree_in nodes)) → (before : Before) → AllByRecursion LowLeaf (block_leaves tables levels nodes before)
    leaves-low [] makes before = tt
    leaves-low (node ∷ nodes) makes before = (own-low node.tree makes.0, leaves-low nodes makes.1 (passed before node))

    block-node-low : (conds : List Cond) (nodes : List Node) → AllByRecursion (Makes limit) (map (shape_of tables) (map tree_in nodes)) → AllByRecursion LowNode nodes → LowNode (block_node tables levels conds nodes)
    block-node-low conds nodes makes all before =
        let after = passed_all before nodes in
        all-append LowGroup (groups_in_turn nodes before) (own_block_groups tables levels conds nodes before) (turn-low nodes all before)
        (block-low after.blocks (levels after.blocks) conds (block_leaves tables levels nodes before) after.groups (leaves-low nodes makes before))

    -- ---- any tree

    abbrev steps : Tree → Node
    steps = node_of tables levels

    abbrev NodeLow : Node → Type 0
    NodeLow node = IsMade node.tree → LowNode node

    abbrev TreeLow : Tree → Type 0
    TreeLow t = NodeLow (steps t)

    each-low : (leaves : List Tree) → AllByRecursion TreeLow leaves → AllByRecursion (Makes limit) (map (shape_of tables) (map tree_in (map steps leaves))) → AllByRecursion LowNode (map steps leaves)
    each-low [] all makes = tt
    each-low (leaf ∷ leaves) all makes = (all.0 makes.0, each-low leaves all.1 makes.1)

    low-cases : Inductive TreeLow
    low-cases = record {
      scan = λ table alias cols.
          subst NodeLow (sym (fold-scan (node_step tables levels) table alias cols))
          (λ makes. operator-low (tree.Scan table alias cols) (op.Scan table alias cols (hash_in (table_named table tables) cols) (replicated_in (table_named table tables))) [] makes tt);
      filter = λ conds child low.
          subst NodeLow (sym (fold-filter (node_step tables levels) conds child)) (λ makes.
          let below = makes-filter limit (shape_of tables (steps child).tree) _ (subst (Makes limit) (fold-filter (shape_step tables) conds (steps child).tree) makes) in
          operator-low (tree.Filter conds (steps child).tree) (op.Filter conds) (steps child ∷ []) makes (low below, tt));
      project = λ items child low.
          subst NodeLow (sym (fold-project (node_step tables levels) items child)) (λ makes.
          let below = makes-project limit items (shape_of tables (steps child).tree) (subst (Makes limit) (fold-project (shape_step tables) items (steps child).tree) makes) in
          operator-low (tree.Project items (steps child).tree) (op.Project items) (steps child ∷ []) makes (low below, tt));
      block = λ leaves conds all.
          subst NodeLow (sym (fold-block (node_step tables levels) leaves conds)) (λ makes.
          let trees = map tree_in (map steps leaves) in
          let below = makes-leaves limit (map (shape_of tables) trees) conds (subst (Makes limit) (fold-block (shape_step tables) trees conds) makes) in
          block-node-low conds (map steps leaves) below (each-low leaves all below));
      join = λ kind conds left right first second.
          subst NodeLow (sym (fold-join (node_step tables levels) kind conds left right)) (λ makes.
          let l = (steps left).tree in
          let r = (steps right).tree in
          let below = makes-sides limit kind conds (shape_of tables l) (shape_of tables r) (subst (Makes limit) (fold-join (shape_step tables) kind conds l r) makes) in
          operator-low (tree.Join kind conds l r) (op.Join kind conds) (steps left ∷ steps right ∷ []) makes (first below.0, (second below.1, tt)));
      group = λ keys aggs child low.
          subst NodeLow (sym (fold-group (node_step tables levels) keys aggs child)) (λ makes.
          let below = makes-child limit keys aggs (shape_of tables (steps child).tree) (subst (Makes limit) (fold-group (shape_step tables) keys aggs (steps child).tree) makes) in
          grouping-low keys aggs (steps child) makes (low below));
    }

    pub groups-low : (t : Tree) → IsMade t → AllByRecursion (λ (group : Group). AllLow limit group.interesting) (memo_of tables levels t).groups
    groups-low t makes =
        let useful = useful_columns tables t in
        map-all LowGroup (λ (group : Group). AllLow limit group.interesting) (kept_group useful) (λ group low. interesting-low useful group.schema low) (groups_of tables levels t)
        (by_trees TreeLow low-cases t (subst IsMade (sym (node-tree tables levels t)) makes) at_first)
