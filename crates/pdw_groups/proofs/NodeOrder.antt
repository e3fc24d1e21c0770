-- The children of a tree's groups come before them, and a node's own group is its last.
use Rattle.std.proofs.Common.{◌≡◌, ℕ, suc, ◌+◌, ◌-◌, ◌&&◌, true, List, [], ◌∷◌, ◌++◌, length, map, refl, sym, ap, ap₂, subst, ◌∙◌, arith, append_assoc, append-nil, length-append}
use Rattle.std.specs.List.{AllByRecursion, flat_map, list_all}
use Rattle.std.proofs.lemmas.List.{length-map}
use Rattle.std.proofs.lemmas.List.Folds.{flat_map-map}
use Rattle.pdw_algebra.proofs.TreeFolds.{Inductive, by_trees, fold-block, fold-filter, fold-group, fold-join, fold-project, fold-scan}
use Rattle.pdw_algebra.proofs.Used.{CondsUse, conds-use}
use Rattle.pdw_algebra.proofs.WellFormedParts.{BlockParts, IsSound, sound-block, sound-child, sound-filter, sound-join, sound-project, sound-tree}
use Rattle.pdw_algebra.proofs.WithinLaws.{UsesOnly}
use Rattle.pdw_algebra.specs.Schema.{rising}
use Rattle.pdw_algebra.specs.Shape.{Shape, block_columns, columns_of, has_number, leaves_fit, shape_of, shape_step}
use Rattle.pdw_algebra.specs.WellFormed.{IsWellFormed}
use Rattle.pdw_algebra.specs.declared.tree.Tree.{Tree}
use Rattle.pdw_algebra.specs.declared.tree.Tree.TheVariants as tree
use Rattle.pdw_base.specs.Schema.{Columns}
use Rattle.pdw_base.specs.declared.schema.ColId.{ColId}
use Rattle.pdw_catalog.specs.Catalog.{Tables}
use Rattle.pdw_expr.specs.Columns.{cond_columns}
use Rattle.pdw_expr.specs.declared.agg.Agg.{Agg}
use Rattle.pdw_expr.specs.declared.cond.Cond.{Cond}
use Rattle.pdw_groups.proofs.BlockWhole.{AllInside, last_child, some-leaf, whole-part, whole-present}
use Rattle.pdw_groups.proofs.NodeTree.{node-tree}
use Rattle.pdw_groups.proofs.OrderLaws.{among-last, among-more, order-append, order-one}
use Rattle.pdw_groups.proofs.PartOrder.{OwnAmong, block-order, whole-in}
use Rattle.pdw_groups.proofs.SchemaLaws.{has_number-all}
use Rattle.pdw_groups.specs.Block.{BlockLeaf}
use Rattle.pdw_groups.specs.Group.{Child, GroupOf, InOrder, IsAmong}
use Rattle.pdw_groups.specs.Meaning.{exactly}
use Rattle.pdw_groups.specs.Node.{Before, Node, block_leaves, block_node, groups_in_turn, grouping_node, node_of, node_step, operator_node, own_block_groups, own_group, own_in_turn, passed, passed_all}
use Rattle.pdw_groups.specs.declared.block.Level.{Level}
use Rattle.pdw_groups.specs.declared.op.Op.{Op}

-- ---- nodes one after the other

-- after these groups, the children of a node's groups come before them, and its own group is one of them
pub record IsOrdered (node : Node) (earlier : List GroupOf) (before : Before) : Type 0 where
  pub order : InOrder earlier (node.groups before)
  pub own : IsAmong (earlier ++ node.groups before) (own_group before node)

abbrev pub Ordered : Node → Type 0
Ordered node = (earlier : List GroupOf) (before : Before) → before.groups ≡ length earlier → IsOrdered node earlier before

passed-length : (node : Node) (earlier : List GroupOf) (before : Before) → before.groups ≡ length earlier → (passed before node).groups ≡ length (earlier ++ node.groups before)
passed-length node earlier before number = ap (λ n. n + length (node.groups before)) number ∙ sym (length-append earlier (node.groups before))

record InTurn (nodes : List Node) (earlier : List GroupOf) (before : Before) : Type 0 where
  order : InOrder earlier (groups_in_turn nodes before)
  own : AllByRecursion (IsAmong (earlier ++ groups_in_turn nodes before)) (own_in_turn nodes before)
  number : (passed_all before nodes).groups ≡ length (earlier ++ groups_in_turn nodes before)

in-turn : (nodes : List Node) → AllByRecursion Ordered nodes → (earlier : List GroupOf) (before : Before) → before.groups ≡ length earlier → InTurn nodes earlier before
in-turn [] all earlier before number = record { order = tt; own = tt; number = number ∙ ap length (sym (append-nil earlier)) }
in-turn (node ∷ nodes) all earlier before number =
    let first = all.0 earlier before number in
    let rest = in-turn nodes all.1 (earlier ++ node.groups before) (passed before node) (passed-length node earlier before number) in
    let assoc = append_assoc earlier (node.groups before) (groups_in_turn nodes (passed before node)) in
    record {
      order = order-append earlier (node.groups before) (groups_in_turn nodes (passed before node)) first.order rest.order;
      own = (
        subst (λ groups. IsAmong groups (own_group before node)) assoc (among-more (earlier ++ node.groups before) (groups_in_turn nodes (passed before node)) (own_group before node) first.own),
        subst (λ groups. AllByRecursion (IsAmong groups) (own_in_turn nodes (passed before node))) assoc rest.own,
      );
      number = rest.number ∙ ap length assoc;
    }

-- the last of the groups of a node
last-own : (earlier groups : List GroupOf) (group : GroupOf) (child : Child) (first : ℕ) → first ≡ length earlier → child.number ≡ (first + length (groups ++ group ∷ [])) - 1 → group.means ≡ child.means
    → IsAmong (earlier ++ (groups ++ group ∷ [])) child
last-own earlier groups group child first number is same =
    subst (λ all. IsAmong all child) (append_assoc earlier groups (group ∷ []))
    (among-last (earlier ++ groups) child group
    (let more = length-append groups (group ∷ []) in let all = length-append earlier groups in omega (arith, number, is, more, all)) same)

-- ---- operators

operator-ordered : (tables : Tables) (levels : ℕ → Level) (t : Tree) (operator : Op) (children : List Node) → AllByRecursion Ordered children → Ordered (operator_node tables levels t operator children)
operator-ordered tables levels t operator children all earlier before number =
    let turn = in-turn children all earlier before number in
    record {
      order = order-one earlier (groups_in_turn children before) _ turn.order (turn.own, tt);
      own = last-own earlier (groups_in_turn children before) _ _ before.groups number refl refl;
    }

-- ---- groupings

grouping-ordered : (tables : Tables) (levels : ℕ → Level) (keys : List ColId) (aggs : List Agg) (child : Node) → Ordered child → Ordered (grouping_node tables levels keys aggs child)
grouping-ordered tables levels keys aggs child holds earlier before number =
    let first = holds earlier before number in
    record {
      order =
          order-append earlier (child.groups before) _ first.order (
            ((first.own, tt), tt),
            (
              (
                (among-more (earlier ++ child.groups before) _ (own_group before child) first.own, tt),
                ((among-last (earlier ++ child.groups before) _ _ (passed-length child earlier before number) refl, tt), tt),
              ),
              tt,
            ),
          );
      own =
          subst (λ groups. IsAmong (earlier ++ groups) (own_group before (grouping_node tables levels keys aggs child))) (append_assoc (child.groups before) (_ ∷ []) (_ ∷ []))
          (last-own earlier (child.groups before ++ _ ∷ []) _ (own_group before (grouping_node tables levels keys aggs child)) before.groups number
          (ap (λ groups. (before.groups + length groups) - 1) (sym (append_assoc (child.groups before) (_ ∷ []) (_ ∷ [])))) refl);
    }

-- ---- blocks

module _ (tables : Tables) (levels : ℕ → Level) where
  own-leaves : (block : ℕ) (conds : List Cond) (groups : List GroupOf) (nodes : List Node) (before : Before) → AllByRecursion (IsAmong groups) (own_in_turn nodes before)
      → OwnAmong block conds groups (block_leaves tables levels nodes before)
  own-leaves block conds groups [] before all = tt
  own-leaves block conds groups (node ∷ nodes) before all = (all.0, own-leaves block conds groups nodes (passed before node) all.1)

  leaves-trees : (nodes : List Node) (before : Before) → map (λ (leaf : BlockLeaf). leaf.tree) (block_leaves tables levels nodes before) ≡ map (λ (node : Node). node.tree) nodes
  leaves-trees [] before = refl
  leaves-trees (node ∷ nodes) before = ap (λ rest. node.tree ∷ rest) (leaves-trees nodes (passed before node))

  leaves-count : (nodes : List Node) (before : Before) → length (block_leaves tables levels nodes before) ≡ length nodes
  leaves-count [] before = refl
  leaves-count (node ∷ nodes) before = ap suc (leaves-count nodes (passed before node))

  leaves-schemas : (leaves : List Tree) (before : Before)
      → map (λ (leaf : BlockLeaf). leaf.columns) (block_leaves tables levels (map (node_of tables levels) leaves) before) ≡ map rising (map (columns_of tables) leaves)
  leaves-schemas [] before = refl
  leaves-schemas (leaf ∷ leaves) before =
      ap₂ (λ a b. a ∷ b) (ap (λ t. rising (columns_of tables t)) (node-tree tables levels leaf)) (leaves-schemas leaves (passed before (node_of tables levels leaf)))

  -- what is typed over the leaves' columns lies inside their schemas
  used-inside : (leaves : List Columns) (used : List ColId) → UsesOnly (flat_map (λ columns. columns) leaves) used → list_all (λ c. has_number c (flat_map (λ columns. columns) (map rising leaves))) used ≡ true
  used-inside leaves [] uses = refl
  used-inside leaves (c ∷ used) uses = ap₂ (λ a b. a && b) (has_number-all c leaves ∙ uses.0) (used-inside leaves used uses.1)

  all-inside : (leaves : List Columns) (conds : List Cond) → CondsUse (flat_map (λ columns. columns) leaves) conds → AllInside (map rising leaves) conds
  all-inside leaves [] uses = refl
  all-inside leaves (x ∷ conds) uses = ap₂ (λ a b. a && b) (used-inside leaves (cond_columns x) uses.0) (all-inside leaves conds uses.1)

  pub block-inside : (leaves : List Tree) (conds : List Cond) (before : Before) → BlockParts (map (shape_of tables) leaves) conds
      → AllInside (map (λ (leaf : BlockLeaf). leaf.columns) (block_leaves tables levels (map (node_of tables levels) leaves) before)) conds
  block-inside leaves conds before parts =
      subst (λ columns. AllInside columns conds) (sym (leaves-schemas leaves before))
      (all-inside (map (columns_of tables) leaves) conds
      (subst (λ columns. CondsUse columns conds)
      (flat_map-map (λ (shape : Shape). shape.columns) (shape_of tables) leaves ∙ sym (flat_map-map (λ columns. columns) (columns_of tables) leaves))
      (conds-use (block_columns (map (shape_of tables) leaves)) conds parts.typed)))

  -- the last group of a block is the node's own
  same-last : (conds : List Cond) (nodes : List Node) (earlier : List GroupOf) (before : Before) → before.groups ≡ length earlier → (passed_all before nodes).groups ≡ length (earlier ++ groups_in_turn nodes before)
      → last_child (passed_all before nodes).blocks (levels (passed_all before nodes).blocks) conds (block_leaves tables levels nodes before) (passed_all before nodes).groups
      ≡ own_group before (block_node tables levels conds nodes)
  same-last conds nodes earlier before number turn =
      let turned = groups_in_turn nodes before in
      let added = own_block_groups tables levels conds nodes before in
      let first = length-append earlier turned in
      let second = length-append turned added in
      let count : ((passed_all before nodes).groups + length added) - 1 ≡ (before.groups + length (turned ++ added)) - 1 = omega (arith, number, turn, first, second) in
      ap₂ (λ n trees. record { number = n; means = exactly (tree.Block trees conds) }) count (leaves-trees nodes before)

  abbrev steps : Tree → Node
  steps = node_of tables levels

  block-ordered : (leaves : List Tree) (conds : List Cond) → BlockParts (map (shape_of tables) leaves) conds → AllByRecursion Ordered (map steps leaves) → Ordered (block_node tables levels conds (map steps leaves))
  block-ordered leaves conds parts all earlier before number =
      let nodes = map steps leaves in
      let turn = in-turn nodes all earlier before number in
      let after = passed_all before nodes in
      let sides = block_leaves tables levels nodes before in
      let own = own-leaves after.blocks conds (earlier ++ groups_in_turn nodes before) nodes before turn.own in
      let count : length sides ≡ length (map (shape_of tables) leaves) = leaves-count nodes before ∙ length-map leaves steps ∙ sym (length-map leaves (shape_of tables)) in
      let fits : leaves_fit (length sides) conds ≡ true = ap (λ n. leaves_fit n conds) count ∙ parts.fits in
      let some = some-leaf (length sides) conds fits in
      let order = block-order after.blocks (levels after.blocks) conds sides after.groups (earlier ++ groups_in_turn nodes before) turn.number own in
      let whole = whole-in after.blocks (levels after.blocks) conds sides after.groups (earlier ++ groups_in_turn nodes before) turn.number own some (whole-present (levels after.blocks) (length sides) some) in
      let last = whole-part after.blocks (levels after.blocks) conds sides after.groups (block-inside leaves conds before parts) fits in
      record {
        order = order-append earlier (groups_in_turn nodes before) (own_block_groups tables levels conds nodes before) turn.order order;
        own = subst (λ groups. IsAmong groups (own_group before (block_node tables levels conds nodes))) (append_assoc earlier (groups_in_turn nodes before) (own_block_groups tables levels conds nodes before))
            (subst (IsAmong ((earlier ++ groups_in_turn nodes before) ++ own_block_groups tables levels conds nodes before)) (last ∙ same-last conds nodes earlier before number turn.number) whole);
      }

  -- ---- any tree

  abbrev TreeOrdered : Tree → Type 0
  TreeOrdered t = IsSound (shape_of tables t) → Ordered (steps t)

  from_layer : (t : Tree) (node : Node) (shape : Shape) → steps t ≡ node → shape_of tables t ≡ shape → (IsSound shape → Ordered node) → TreeOrdered t
  from_layer t node shape is_node is_shape holds sound = subst Ordered (sym is_node) (holds (subst IsSound is_shape sound))

  leaves-ordered : (leaves : List Tree) → AllByRecursion TreeOrdered leaves → AllByRecursion IsSound (map (shape_of tables) leaves) → AllByRecursion Ordered (map steps leaves)
  leaves-ordered [] all sound = tt
  leaves-ordered (leaf ∷ leaves) all sound = (all.0 sound.0, leaves-ordered leaves all.1 sound.1)

  cases : Inductive TreeOrdered
  cases = record {
    scan = λ table alias cols.
        from_layer (tree.Scan table alias cols) _ _ (fold-scan (node_step tables levels) table alias cols) (fold-scan (shape_step tables) table alias cols)
        (λ sound. operator-ordered tables levels _ _ [] tt);
    filter = λ conds child holds.
        from_layer (tree.Filter conds child) _ _ (fold-filter (node_step tables levels) conds child) (fold-filter (shape_step tables) conds child)
        (λ sound. operator-ordered tables levels _ _ (steps child ∷ []) (holds (sound-filter (shape_of tables child) _ (shape_of tables child).made _ sound), tt));
    project = λ items child holds.
        from_layer (tree.Project items child) _ _ (fold-project (node_step tables levels) items child) (fold-project (shape_step tables) items child)
        (λ sound. operator-ordered tables levels _ _ (steps child ∷ []) (holds (sound-project items (shape_of tables child) sound), tt));
    block = λ leaves conds all.
        from_layer (tree.Block leaves conds) _ _ (fold-block (node_step tables levels) leaves conds) (fold-block (shape_step tables) leaves conds)
        (λ sound.
        let parts = sound-block (map (shape_of tables) leaves) conds sound in
        block-ordered leaves conds parts (leaves-ordered leaves all parts.each));
    join = λ kind conds left right first second.
        from_layer (tree.Join kind conds left right) _ _ (fold-join (node_step tables levels) kind conds left right) (fold-join (shape_step tables) kind conds left right)
        (λ sound.
        let both = sound-join kind conds (shape_of tables left) (shape_of tables right) sound in
        operator-ordered tables levels _ _ (steps left ∷ steps right ∷ []) (first both.0, (second both.1, tt)));
    group = λ keys aggs child holds.
        from_layer (tree.GroupBy keys aggs child) _ _ (fold-group (node_step tables levels) keys aggs child) (fold-group (shape_step tables) keys aggs child)
        (λ sound. grouping-ordered tables levels keys aggs (steps child) (holds (sound-child keys aggs (shape_of tables child) sound)));
  }

  pub tree-ordered : (t : Tree) → IsWellFormed tables t → Ordered (steps t)
  tree-ordered t well = by_trees TreeOrdered cases t (sound-tree tables t well)
