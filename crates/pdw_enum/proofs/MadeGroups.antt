-- In every memo each expression of a group has as many children as its operator takes, and a scan stands as its group may have it.
-- An induction over the tree of the memo, whose useful columns are those of all its subtrees.
use Rattle.std.proofs.Common.{◌≡◌, ℕ, ◌≤◌, true, List, [], ◌∷◌, ◌++◌, map, length, Option, refl, sym, ap, subst, ◌∙◌, arith}
use Rattle.std.specs.List.{AllByRecursion, flat_map}
use Rattle.pdw_algebra.proofs.AllLaws.{all-append}
use Rattle.pdw_algebra.proofs.TreeFolds.{Inductive, by_trees, fold-block, fold-filter, fold-group, fold-join, fold-project, fold-scan}
use Rattle.pdw_algebra.specs.Shape.{Shape, has_number, shape_of, shape_step}
use Rattle.pdw_algebra.specs.declared.tree.Tree.{Tree}
use Rattle.pdw_algebra.specs.declared.tree.Tree.TheVariants as tree
use Rattle.pdw_base.specs.declared.schema.ColId.{ColId}
use Rattle.pdw_catalog.specs.Catalog.{Tables, table_named}
use Rattle.pdw_expr.specs.declared.agg.Agg.{Agg}
use Rattle.pdw_expr.specs.declared.cond.Cond.{Cond}
use Rattle.pdw_groups.proofs.SchemaLaws.{has_number-rising}
use Rattle.pdw_groups.specs.Block.{BlockLeaf, second_group}
use Rattle.pdw_groups.specs.Columns.{as_list, equated, hash_in, interesting_in, replicated_in, useful_columns, useful_step}
use Rattle.pdw_groups.specs.Group.{ExprOf, GroupOf, kept_expr, kept_group}
use Rattle.pdw_groups.specs.Memo.{Contents, at_first, groups_of}
use Rattle.pdw_groups.specs.Node.{Before, Node, block_leaves, block_node, groups_in_turn, grouping_groups, grouping_node, node_of, node_step, operator_node, own_block_groups, own_in_turn, passed, passed_all, schema_of_tree, whole_group}
use Rattle.pdw_groups.specs.declared.block.Level.{Level}
use Rattle.pdw_groups.specs.declared.group.Expr.{Expr}
use Rattle.pdw_groups.specs.declared.group.Group.{Group}
use Rattle.pdw_groups.specs.declared.op.Op.{Op}
use Rattle.pdw_groups.specs.declared.op.Op.TheVariants as op
use Rattle.pdw_least.specs.Reached.{AreMade, IsComplete, IsMade}
use Rattle.pdw_memo.proofs.Counts.{map-all}
use Rattle.pdw_memo.proofs.EachGroup.{all-at, each-join, each-of_block}
use Rattle.pdw_memo.proofs.MemoExprs.{memo-exprs}
use Rattle.pdw_memo.specs.Memo.{IsMemo}
use Rattle.pdw_enum.proofs.Scanned.{has_column, left-there, right-there, scan-allowed}
use Rattle.pdw_ways.proofs.Same.{column-itself}

-- where these columns are useful in the whole statement
module _ (useful : List ColId) where
  abbrev IsCompleteAt : List ColId → ExprOf → Type 0
  IsCompleteAt interesting expr = IsComplete interesting (kept_expr expr).op (kept_expr expr).children

  -- each expression of a group is complete
  abbrev Complete : GroupOf → Type 0
  Complete group = AllByRecursion (IsCompleteAt (interesting_in useful group.schema)) group.exprs

  abbrev Holds : Node → Type 0
  Holds node = (before : Before) → AllByRecursion Complete (node.groups before)

  -- these are among them
  abbrev Includes : List ColId → Type 0
  Includes columns = (c : ColId) → has_column c columns ≡ true → has_column c useful ≡ true

  includes-left : (some more : List ColId) → Includes (some ++ more) → Includes some
  includes-left some more included c there = included c (left-there c some more there)

  includes-right : (some more : List ColId) → Includes (some ++ more) → Includes more
  includes-right some more included c there = included c (right-there c some more there)

  -- ---- nodes

  turn-complete : (nodes : List Node) → AllByRecursion Holds nodes → (before : Before) → AllByRecursion Complete (groups_in_turn nodes before)
  turn-complete [] all before = tt
  turn-complete (node ∷ nodes) all before =
      all-append Complete (node.groups before) (groups_in_turn nodes (passed before node)) (all.0 before) (turn-complete nodes all.1 (passed before node))

  second-complete : (block place : ℕ) (leaf : BlockLeaf) (inside : List Cond) → AllByRecursion Complete (second_group block place leaf inside)
  second-complete block place leaf [] = tt
  second-complete block place leaf (first ∷ rest) = ((tt, tt), tt)

  module _ (tables : Tables) (levels : ℕ → Level) where
    abbrev steps : Tree → Node
    steps = node_of tables levels

    operator-complete : (t : Tree) (operator : Op) (nodes : List Node)
        → ((before : Before) → IsCompleteAt (interesting_in useful (schema_of_tree tables levels t)) (record { operator = operator; children = own_in_turn nodes before }))
        → AllByRecursion Holds nodes → Holds (operator_node tables levels t operator nodes)
    operator-complete t operator nodes here all before =
        all-append Complete (groups_in_turn nodes before) (whole_group tables levels (passed_all before nodes).operators t (record { operator = operator; children = own_in_turn nodes before } ∷ []) ∷ [])
        (turn-complete nodes all before) ((here before, tt), tt)

    grouping-complete : (keys : List ColId) (aggs : List Agg) (child : Node) → Holds child → Holds (grouping_node tables levels keys aggs child)
    grouping-complete keys aggs child holds before =
        all-append Complete (child.groups before) (grouping_groups tables levels keys aggs child before) (holds before) ((tt, tt), ((tt, (tt, tt)), tt))

    block-complete : (conds : List Cond) (nodes : List Node) → AllByRecursion Holds nodes → Holds (block_node tables levels conds nodes)
    block-complete conds nodes all before =
        let after = passed_all before nodes in
        let sides = block_leaves tables levels nodes before in
        all-append Complete (groups_in_turn nodes before) (own_block_groups tables levels conds nodes before) (turn-complete nodes all before)
        (each-of_block Complete after.blocks conds (second-complete after.blocks) (levels after.blocks) sides after.groups
        (λ mask inside has. each-join (IsCompleteAt _) after.blocks (levels after.blocks) conds sides after.groups mask (λ left less is. tt)))

    -- a scan's hash column is useful, and a column of the scan
    scan-complete : (table alias : List ℕ) (cols : List (ColId × ℕ)) → Includes (as_list (hash_in (table_named table tables) cols))
        → IsComplete (interesting_in useful (schema_of_tree tables levels (tree.Scan table alias cols))) (op.Scan table alias cols (hash_in (table_named table tables) cols) (replicated_in (table_named table tables))) []
    scan-complete table alias cols included =
        scan-allowed useful (table_named table tables) cols (schema_of_tree tables levels (tree.Scan table alias cols))
        (λ c is. subst (λ (found : Option ColId). Includes (as_list found)) is included c (ap (λ b. b) (list-itself c)))
        (λ c there. has_number-rising c (shape_of tables (tree.Scan table alias cols)).columns
        ∙ ap (λ (shape : Shape). has_number c shape.columns) (fold-scan (shape_step tables) table alias cols) ∙ there)
      where
        list-itself : (c : ColId) → has_column c (c ∷ []) ≡ true
        list-itself c = rw (column-itself c) refl

    -- ---- trees

    abbrev TreeHolds : Tree → Type 0
    TreeHolds t = Includes (useful_columns tables t) → Holds (steps t)

    from_layer : (t : Tree) (node : Node) (columns : List ColId) → steps t ≡ node → useful_columns tables t ≡ columns → (Includes columns → Holds node) → TreeHolds t
    from_layer t node columns is_node is_useful holds included = subst Holds (sym is_node) (holds (subst Includes is_useful included))

    leaves-complete : (leaves : List Tree) → AllByRecursion TreeHolds leaves → Includes (flat_map (λ (leaf : List ColId). leaf) (map (useful_columns tables) leaves)) → AllByRecursion Holds (map steps leaves)
    leaves-complete [] all included = tt
    leaves-complete (leaf ∷ leaves) all included =
        let rest = flat_map (λ (leaf : List ColId). leaf) (map (useful_columns tables) leaves) in
        (all.0 (includes-left (useful_columns tables leaf) rest included), leaves-complete leaves all.1 (includes-right (useful_columns tables leaf) rest included))

    cases : Inductive TreeHolds
    cases = record {
      scan = λ table alias cols.
          from_layer (tree.Scan table alias cols) _ _ (fold-scan (node_step tables levels) table alias cols) (fold-scan (useful_step tables) table alias cols)
          (λ included. operator-complete (tree.Scan table alias cols) (op.Scan table alias cols (hash_in (table_named table tables) cols) (replicated_in (table_named table tables))) []
          (λ before. scan-complete table alias cols included) tt);
      filter = λ conds child holds.
          from_layer (tree.Filter conds child) _ _ (fold-filter (node_step tables levels) conds child) (fold-filter (useful_step tables) conds child)
          (λ included. operator-complete (tree.Filter conds (steps child).tree) (op.Filter conds) (steps child ∷ []) (λ before. tt)
          (holds (includes-left (useful_columns tables child) (equated conds) included), tt));
      project = λ items child holds.
          from_layer (tree.Project items child) _ _ (fold-project (node_step tables levels) items child) (fold-project (useful_step tables) items child)
          (λ included. operator-complete (tree.Project items (steps child).tree) (op.Project items) (steps child ∷ []) (λ before. tt) (holds included, tt));
      block = λ leaves conds all.
          from_layer (tree.Block leaves conds) _ _ (fold-block (node_step tables levels) leaves conds) (fold-block (useful_step tables) leaves conds)
          (λ included. block-complete conds (map steps leaves) (leaves-complete leaves all (includes-left _ (equated conds) included)));
      join = λ kind conds left right first second.
          from_layer (tree.Join kind conds left right) _ _ (fold-join (node_step tables levels) kind conds left right) (fold-join (useful_step tables) kind conds left right)
          (λ included.
          let both = includes-left (useful_columns tables left ++ useful_columns tables right) (equated conds) included in
          operator-complete (tree.Join kind conds (steps left).tree (steps right).tree) (op.Join kind conds) (steps left ∷ steps right ∷ []) (λ before. tt)
          (first (includes-left (useful_columns tables left) (useful_columns tables right) both), (second (includes-right (useful_columns tables left) (useful_columns tables right) both), tt)));
      group = λ keys aggs child holds.
          from_layer (tree.GroupBy keys aggs child) _ _ (fold-group (node_step tables levels) keys aggs child) (fold-group (useful_step tables) keys aggs child)
          (λ included. grouping-complete keys aggs (steps child) (holds (includes-left (useful_columns tables child) keys included)));
    }

    pub tree-complete : (t : Tree) → TreeHolds t
    tree-complete = by_trees TreeHolds cases

-- ---- the groups of a memo

abbrev KeptComplete : Group → Type 0
KeptComplete group = AllByRecursion (λ (expr : Expr). IsComplete group.interesting expr.op expr.children) group.exprs

kept-complete : (useful : List ColId) (group : GroupOf) → Complete useful group → KeptComplete (kept_group useful group)
kept-complete useful group complete =
    map-all (IsCompleteAt useful (interesting_in useful group.schema)) (λ (expr : Expr). IsComplete (interesting_in useful group.schema) expr.op expr.children) kept_expr (λ expr own. own) group.exprs complete

memo-complete : (contents : Contents) → IsMemo contents → AllByRecursion KeptComplete contents.groups
memo-complete contents memo =
    let useful = useful_columns memo.tables memo.tree in
    subst (λ (c : Contents). AllByRecursion KeptComplete c.groups) (sym memo.is)
    (map-all (Complete useful) KeptComplete (kept_group useful) (kept-complete useful) (groups_of memo.tables memo.levels memo.tree)
    (tree-complete useful memo.tables memo.levels memo.tree (λ c there. there) at_first))

first-made : (interesting : List ColId) (exprs : List Expr) → 1 ≤ length exprs → AllByRecursion (λ (expr : Expr). IsComplete interesting expr.op expr.children) exprs → IsMade interesting exprs
first-made interesting [] some all = absurd (omega (arith, some))
first-made interesting (expr ∷ exprs) some all = all.0

pub memo-made : (contents : Contents) → IsMemo contents → AreMade contents.groups
memo-made contents memo number group there =
    first-made group.interesting group.exprs (all-at (λ (g : Group). 1 ≤ length g.exprs) contents.groups (memo-exprs contents memo) number group there)
    (all-at KeptComplete contents.groups (memo-complete contents memo) number group there)
