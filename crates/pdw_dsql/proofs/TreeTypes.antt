-- The expressions of a well-formed tree's groups are well-typed, by induction over trees.
use Rattle.std.proofs.Common.{◌≡◌, ◌≢◌, ℕ, ◌==◌, ◌||◌, ◌&&◌, true, false, List, [], ◌∷◌, ◌++◌, map, is_some, Option, refl, sym, ap, ap₂, subst, ◌∙◌, ne_eqb}
use Rattle.std.specs.List.{AllByRecursion, list_all, list_any}
use Rattle.std.proofs.lemmas.Bool.{and_parts}
use Rattle.std.proofs.lemmas.Simd.{map-map}
use Rattle.pdw_agg.specs.Columns.{OutsDiffer}
use Rattle.pdw_algebra.proofs.AllLaws.{all-append}
use Rattle.pdw_algebra.proofs.TreeFolds.{Inductive, by_trees, fold-block, fold-filter, fold-group, fold-join, fold-project, fold-scan}
use Rattle.pdw_algebra.proofs.WellFormedParts.{IsSound, Once, keys-apart, sound-block, sound-child, sound-filter, sound-join, sound-project}
use Rattle.pdw_algebra.specs.Schema.{rising}
use Rattle.pdw_algebra.specs.Shape.{Shape, all_apart, columns_of, group_shape, has_number, item_kind, joined_columns, project_shape, shape_of, shape_step}
use Rattle.pdw_algebra.specs.Types.{aggregate_kind}
use Rattle.pdw_algebra.specs.declared.tree.Tree.TheVariants as tree
use Rattle.pdw_algebra.specs.declared.tree.Tree.{Tree}
use Rattle.pdw_base.specs.Schema.{Columns}
use Rattle.pdw_base.specs.declared.schema.ColId.{ColId}
use Rattle.pdw_catalog.specs.Catalog.{Tables, table_named}
use Rattle.pdw_dsql.proofs.BlockTypes.{ExprTyped, GroupTyped, block-typed}
use Rattle.pdw_dsql.proofs.ExprTypes.{final-typed, group-typed, items-typed, partial-typed}
use Rattle.pdw_dsql.proofs.PlainColumns.{AreStoredNamed, plain-tree}
use Rattle.pdw_dsql.proofs.SameKinds.{rising-both}
use Rattle.pdw_expr.specs.declared.agg.Agg.{Agg}
use Rattle.pdw_expr.specs.declared.agg.JoinKind.TheVariants as join
use Rattle.pdw_expr.specs.declared.agg.JoinKind.{JoinKind}
use Rattle.pdw_expr.specs.declared.scalar.Scalar.{Scalar}
use Rattle.pdw_groups.proofs.NodeTree.{node-tree}
use Rattle.pdw_groups.proofs.SchemaLaws.{all_apart-rising}
use Rattle.pdw_groups.specs.Block.{BlockLeaf}
use Rattle.pdw_groups.specs.Columns.{hash_in, replicated_in}
use Rattle.pdw_groups.specs.Node.{Before, Node, block_leaves, groups_in_turn, grouping_groups, grouping_node, node_of, node_step, operator_node, own_block_groups, own_in_turn, passed, passed_all, whole_group}
use Rattle.pdw_groups.specs.declared.block.Level.{Level}
use Rattle.pdw_groups.specs.declared.op.Op.TheVariants as op
use Rattle.pdw_groups.specs.declared.op.Op.{Op}
use Rattle.pdw_join.specs.Joined as local
use Rattle.pdw_memo.proofs.MemoRows.{leaves-risen}

-- the aggregates of a sound grouping make different columns
outs-differ : (made : List ColId) (aggs : List Agg) → Once (made ++ map (λ (agg : Agg). agg.out) aggs) → OutsDiffer aggs
outs-differ (c ∷ made) aggs once = outs-differ made aggs once.1
outs-differ [] [] once = tt
outs-differ [] (agg ∷ aggs) once = (others aggs once.0, outs-differ [] aggs once.1)
  where
    others : (aggs : List Agg) → AllByRecursion (λ (other : ColId). agg.out.0 ≢ other.0) (map (λ (agg : Agg). agg.out) aggs) → list_any (λ (other : Agg). agg.out.0 == other.out.0) aggs ≡ false
    others [] all = refl
    others (other ∷ aggs) all = ap₂ (λ a b. a || b) (ne_eqb agg.out.0 other.out.0 all.0) (others aggs all.1)

module _ (tables : Tables) (stored : AreStoredNamed tables) (levels : ℕ → Level) where
  abbrev Holds : Node → Type 0
  Holds node = (before : Before) → AllByRecursion (GroupTyped tables) (node.groups before)

  turn-holds : (nodes : List Node) → AllByRecursion Holds nodes → (before : Before) → AllByRecursion (GroupTyped tables) (groups_in_turn nodes before)
  turn-holds [] all before = tt
  turn-holds (node ∷ nodes) all before =
      all-append (GroupTyped tables) (node.groups before) (groups_in_turn nodes (passed before node)) (all.0 before) (turn-holds nodes all.1 (passed before node))

  operator-holds : (t : Tree) (operator : Op) (nodes : List Node)
      → ((before : Before) → ExprTyped tables (rising (columns_of tables t)) (record { operator = operator; children = own_in_turn nodes before })) → AllByRecursion Holds nodes → Holds (operator_node tables levels t operator nodes)
  operator-holds t operator nodes here all before =
      all-append (GroupTyped tables) (groups_in_turn nodes before) (whole_group tables levels (passed_all before nodes).operators t (record { operator = operator; children = own_in_turn nodes before } ∷ []) ∷ []) (turn-holds nodes all before)
      ((here before, tt), tt)

  abbrev steps : Tree → Node
  steps = node_of tables levels

  abbrev shape : Tree → Shape
  shape = shape_of tables

  abbrev TreeHolds : Tree → Type 0
  TreeHolds t = IsSound (shape t) → Holds (steps t)

  from_layer : (t : Tree) (node : Node) (s : Shape) → steps t ≡ node → shape t ≡ s → (IsSound s → Holds node) → TreeHolds t
  from_layer t node s is_node is_shape holds sound = subst Holds (sym is_node) (holds (subst IsSound is_shape sound))

  columns-same : (t : Tree) (s : Shape) → shape t ≡ s → columns_of tables t ≡ s.columns
  columns-same t s is = ap (λ (s : Shape). s.columns) is

  -- what is known of a tree is known of the tree of its node
  of-node : (P : Tree → Type 0) (t : Tree) → P t → P (steps t).tree
  of-node P t holds = subst P (sym (node-tree tables levels t)) holds

  -- ---- each operator

  project-holds : (items : List (ColId × Option Scalar)) (child : Tree) → IsSound (project_shape items (shape child)) → Holds (steps child)
      → Holds (operator_node tables levels (tree.Project items (steps child).tree) (op.Project items) (steps child ∷ []))
  project-holds items child sound holds =
      let c = (steps child).tree in
      let typed = (and_parts (shape child).sound (list_all (λ item. is_some (item_kind (shape child).columns item)) items) sound.nodes).1 in
      let own = items-typed (columns_of tables c) items (of-node (λ t. list_all (λ item. is_some (item_kind (columns_of tables t) item)) items ≡ true) child typed) in
      operator-holds (tree.Project items c) (op.Project items) (steps child ∷ [])
      (λ before. (own.0 ∙ ap rising (sym (columns-same (tree.Project items c) _ (fold-project (shape_step tables) items c))), own.1)) (holds, tt)

  joined-schema : (k : JoinKind) (left right : Columns) → local.joined_columns k (rising left) (rising right) ≡ rising (joined_columns k left right)
  joined-schema join.Inner left right = rising-both left right
  joined-schema join.Left left right = rising-both left right
  joined-schema join.Full left right = rising-both left right
  joined-schema join.Semi left right = refl
  joined-schema join.Anti left right = refl

  group-holds : (keys : List ColId) (aggs : List Agg) (child : Tree) → IsSound (group_shape keys aggs (shape child)) → Holds (steps child) → Holds (grouping_node tables levels keys aggs (steps child))
  group-holds keys aggs child sound holds before =
      let c = (steps child).tree in
      let columns = columns_of tables c in
      let parts = and_parts (shape child).sound (list_all (λ key. has_number key (shape child).columns) keys && list_all (λ (agg : Agg). is_some (aggregate_kind (shape child).columns agg)) aggs) sound.nodes in
      let all = (and_parts (list_all (λ key. has_number key (shape child).columns) keys) (list_all (λ (agg : Agg). is_some (aggregate_kind (shape child).columns agg)) aggs) parts.1).1 in
      let typed = of-node (λ t. list_all (λ (agg : Agg). is_some (aggregate_kind (columns_of tables t) agg)) aggs ≡ true) child all in
      let apart = keys-apart tables keys aggs child sound in
      let plain = plain-tree tables stored c in
      let differ = outs-differ (shape child).made aggs sound.once in
      let own = ap rising (sym (columns-same (tree.GroupBy keys aggs c) _ (fold-group (shape_step tables) keys aggs c))) in
      let whole = group-typed columns plain keys aggs apart typed in
      let final = final-typed columns plain keys aggs apart typed differ in
      all-append (GroupTyped tables) ((steps child).groups before) (grouping_groups tables levels keys aggs (steps child) before) (holds before)
      ((partial-typed columns plain keys aggs apart typed, tt), (((whole.0 ∙ own, whole.1), ((final.0 ∙ own, final.1), tt)), tt))

  leaves-schemas : (leaves : List Tree) (before : Before)
      → map (λ (leaf : BlockLeaf). leaf.columns) (block_leaves tables levels (map steps leaves) before) ≡ map rising (map (columns_of tables) leaves)
  leaves-schemas [] before = refl
  leaves-schemas (leaf ∷ leaves) before =
      ap₂ (λ a b. a ∷ b) (ap (λ t. rising (columns_of tables t)) (node-tree tables levels leaf)) (leaves-schemas leaves (passed before (steps leaf)))

  leaves-apart : (leaves : List Tree) (before : Before) → all_apart (map (λ (s : Shape). s.columns) (map shape leaves)) ≡ true
      → all_apart (map (λ (leaf : BlockLeaf). leaf.columns) (block_leaves tables levels (map steps leaves) before)) ≡ true
  leaves-apart leaves before apart =
      ap all_apart (leaves-schemas leaves before)
      ∙ all_apart-rising (map (columns_of tables) leaves) (ap all_apart (sym (map-map (λ (s : Shape). s.columns) shape leaves)) ∙ apart)

  all-hold : (leaves : List Tree) → AllByRecursion TreeHolds leaves → AllByRecursion IsSound (map shape leaves) → AllByRecursion Holds (map steps leaves)
  all-hold [] all sound = tt
  all-hold (leaf ∷ leaves) all sound = (all.0 sound.0, all-hold leaves all.1 sound.1)

  cases : Inductive TreeHolds
  cases = record {
    scan = λ table alias cols.
        from_layer (tree.Scan table alias cols) _ _ (fold-scan (node_step tables levels) table alias cols) (fold-scan (shape_step tables) table alias cols)
        (λ sound. operator-holds (tree.Scan table alias cols) (op.Scan table alias cols (hash_in (table_named table tables) cols) (replicated_in (table_named table tables))) []
        (λ before. ap rising (sym (columns-same (tree.Scan table alias cols) _ (fold-scan (shape_step tables) table alias cols)))) tt);
    filter = λ conds child holds.
        from_layer (tree.Filter conds child) _ _ (fold-filter (node_step tables levels) conds child) (fold-filter (shape_step tables) conds child)
        (λ sound. operator-holds (tree.Filter conds (steps child).tree) (op.Filter conds) (steps child ∷ [])
        (λ before. ap rising (sym (columns-same (tree.Filter conds (steps child).tree) _ (fold-filter (shape_step tables) conds (steps child).tree))))
        (holds (sound-filter (shape child) _ (shape child).made _ sound), tt));
    project = λ items child holds.
        from_layer (tree.Project items child) _ _ (fold-project (node_step tables levels) items child) (fold-project (shape_step tables) items child)
        (λ sound. project-holds items child sound (holds (sound-project items (shape child) sound)));
    block = λ leaves conds all.
        from_layer (tree.Block leaves conds) _ _ (fold-block (node_step tables levels) leaves conds) (fold-block (shape_step tables) leaves conds)
        (λ sound before.
        let parts = sound-block (map shape leaves) conds sound in
        let after = passed_all before (map steps leaves) in
        all-append (GroupTyped tables) (groups_in_turn (map steps leaves) before) (own_block_groups tables levels conds (map steps leaves) before)
        (turn-holds (map steps leaves) (all-hold leaves all parts.each) before)
        (block-typed tables after.blocks (levels after.blocks) conds (block_leaves tables levels (map steps leaves) before) after.groups (leaves-risen tables levels (map steps leaves) before)
        (leaves-apart leaves before parts.apart)));
    join = λ k conds left right first second.
        from_layer (tree.Join k conds left right) _ _ (fold-join (node_step tables levels) k conds left right) (fold-join (shape_step tables) k conds left right)
        (λ sound.
        let both = sound-join k conds (shape left) (shape right) sound in
        let l = (steps left).tree in
        let r = (steps right).tree in
        operator-holds (tree.Join k conds l r) (op.Join k conds) (steps left ∷ steps right ∷ [])
        (λ before. joined-schema k (columns_of tables l) (columns_of tables r) ∙ ap rising (sym (columns-same (tree.Join k conds l r) _ (fold-join (shape_step tables) k conds l r))))
        (first both.0, (second both.1, tt)));
    group = λ keys aggs child holds.
        from_layer (tree.GroupBy keys aggs child) _ _ (fold-group (node_step tables levels) keys aggs child) (fold-group (shape_step tables) keys aggs child)
        (λ sound. group-holds keys aggs child sound (holds (sound-child keys aggs (shape child) sound)));
  }

  pub tree-typed : (t : Tree) → TreeHolds t
  tree-typed = by_trees TreeHolds cases
