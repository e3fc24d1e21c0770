-- In every memo the sides of a join have no column in common.
use Rattle.std.proofs.Common.{◌≡◌, ℕ, suc, ◌+◌, ◌&&◌, ◌||◌, Bool, true, false, List, [], ◌∷◌, ◌++◌, length, map, Some, refl, sym, ap, ap₂, subst, ◌∙◌, append_assoc, append-nil, if◌then◌else◌}
use Rattle.std.specs.Int.Bits.{bit_xor}
use Rattle.std.specs.List.{AllByRecursion, flat_map, slice_get}
use Rattle.std.specs.Option.{option_map}
use Rattle.std.proofs.lemmas.Bool.{and_parts}
use Rattle.std.proofs.lemmas.Option.{slice_get-map}
use Rattle.std.proofs.lemmas.Simd.{map-map}
use Rattle.pdw_algebra.proofs.PartLemmas.{columns-block}
use Rattle.pdw_algebra.proofs.Used.{has_number-append}
use Rattle.pdw_algebra.proofs.WellFormedParts.{IsSound, sound-tree}
use Rattle.pdw_algebra.proofs.WithinLaws.{not_right}
use Rattle.pdw_algebra.specs.Schema.{rising}
use Rattle.pdw_algebra.specs.Shape.{Shape, all_apart, all_typed, are_apart, columns_of, has_number, is_outer, join_shape, shape_of}
use Rattle.pdw_algebra.specs.declared.tree.Tree.{Tree}
use Rattle.pdw_base.specs.Schema.{Columns}
use Rattle.pdw_base.specs.declared.schema.ColId.{ColId}
use Rattle.pdw_catalog.specs.Catalog.{Tables}
use Rattle.pdw_expr.specs.declared.agg.JoinKind.{JoinKind}
use Rattle.pdw_expr.specs.declared.cond.Cond.{Cond}
use Rattle.pdw_groups.proofs.NodeOrder.{tree-ordered}
use Rattle.pdw_groups.proofs.NodeTree.{node-tree}
use Rattle.pdw_groups.proofs.OrderLaws.{all-among-more, found}
use Rattle.pdw_groups.proofs.SchemaLaws.{all_apart-rising, has_number-rising}
use Rattle.pdw_groups.proofs.SetLaws.{left-inside, parts-disjoint}
use Rattle.pdw_groups.specs.Block.{BlockLeaf, columns_of_leaves, inside_leaf, one_or, part_of, part_tree, second_group, set_number, single_part, single_parts}
use Rattle.pdw_groups.specs.Columns.{useful_columns}
use Rattle.pdw_groups.specs.Group.{Child, ExprOf, GroupOf, InOrder, IsAmong, id_of, kept_expr, kept_group}
use Rattle.pdw_groups.specs.Level.{is_left, set_of}
use Rattle.pdw_groups.specs.Meaning.{exactly}
use Rattle.pdw_groups.specs.Memo.{Contents, at_first, groups_of}
use Rattle.pdw_groups.specs.Node.{Before, block_leaves, node_of, passed, passed_all}
use Rattle.pdw_groups.specs.declared.block.Level.{Level}
use Rattle.pdw_groups.specs.declared.group.Expr.{Expr}
use Rattle.pdw_groups.specs.declared.group.Group.{Group}
use Rattle.pdw_groups.specs.declared.op.Op.{Op}
use Rattle.pdw_groups.specs.declared.op.Op.TheVariants as op
use Rattle.pdw_memo.proofs.EachGroup.{OfOwnGroups, all-at, each-join, each-of_block, each-of_tree, kept-each, some-same}
use Rattle.pdw_memo.proofs.MemoRows.{IsRisen, Names, columns_by, leaves-risen, names-number, set-columns, tree-named}
use Rattle.pdw_memo.specs.Laws.{AreTwoApart, HasApartSides, OfEachExpr}
use Rattle.pdw_memo.specs.Memo.{IsMemo}
use Rattle.pdw_parts.proofs.ChosenLaws.{Apart, are_apart-from, disjoint-apart}
use Rattle.pdw_parts.specs.Part.{LeafSet, chosen, columns_in, inside}

-- ---- parts of a block

module _ (tables : Tables) where
  -- the columns of what a child means
  abbrev child_columns : Child → Columns
  child_columns child = columns_by tables child.means

  -- a leaf as a part by itself has the leaf's columns
  single-columns : (next : ℕ) (leaf : BlockLeaf) (some : List Cond) → IsRisen tables leaf → (c : ColId) → has_number c (child_columns (single_part next leaf some)) ≡ has_number c leaf.columns
  single-columns next leaf [] risen c = sym (ap (has_number c) risen ∙ has_number-rising c (columns_of tables leaf.tree))
  single-columns next leaf (first ∷ rest) risen c =
      ap (has_number c) (columns-block tables (leaf.tree ∷ []) (first ∷ rest) ∙ append-nil (columns_of tables leaf.tree))
      ∙ sym (ap (has_number c) risen ∙ has_number-rising c (columns_of tables leaf.tree))

  module _ (block : ℕ) (conds : List Cond) where
    abbrev next_of : ℕ → BlockLeaf → ℕ
    next_of next leaf = next + length (second_group block 0 leaf (inside_leaf block conds leaf))

    singles-columns : (set : LeafSet) (next : ℕ) (leaves : List BlockLeaf) → AllByRecursion (IsRisen tables) leaves → (c : ColId)
        → has_number c (flat_map child_columns (chosen set (single_parts block conds next leaves))) ≡ has_number c (columns_in set (map (λ leaf. leaf.columns) leaves))
    singles-columns set next [] risen c = refl
    singles-columns set next (leaf ∷ leaves) risen c =
        by (set 0) (single-columns next leaf (inside_leaf block conds leaf) risen.0 c) (singles-columns (λ i. set (suc i)) (next_of next leaf) leaves risen.1 c)
      where
        by : (b : Bool) → has_number c (child_columns (single_part next leaf (inside_leaf block conds leaf))) ≡ has_number c leaf.columns
            → has_number c (flat_map child_columns (chosen (λ i. set (suc i)) (single_parts block conds (next_of next leaf) leaves))) ≡ has_number c (columns_in (λ i. set (suc i)) (map (λ (leaf : BlockLeaf). leaf.columns) leaves))
            → has_number c (flat_map child_columns (if b then single_part next leaf (inside_leaf block conds leaf) ∷ chosen (λ i. set (suc i)) (single_parts block conds (next_of next leaf) leaves)
            else chosen (λ i. set (suc i)) (single_parts block conds (next_of next leaf) leaves)))
            ≡ has_number c (flat_map (λ columns. columns) (if b then leaf.columns ∷ chosen (λ i. set (suc i)) (map (λ (leaf : BlockLeaf). leaf.columns) leaves)
            else chosen (λ i. set (suc i)) (map (λ (leaf : BlockLeaf). leaf.columns) leaves)))
        by true own rest =
            has_number-append (child_columns (single_part next leaf (inside_leaf block conds leaf))) (flat_map child_columns (chosen (λ i. set (suc i)) (single_parts block conds (next_of next leaf) leaves))) c
            ∙ ap₂ (λ a b. a || b) own rest
            ∙ sym (has_number-append leaf.columns (columns_in (λ i. set (suc i)) (map (λ (leaf : BlockLeaf). leaf.columns) leaves)) c)
        by false own rest = rest

    module _ (level : Level) (leaves : List BlockLeaf) (first : ℕ) (risen : AllByRecursion (IsRisen tables) leaves) where
      abbrev columns : List Columns
      columns = columns_of_leaves block level conds leaves first

      -- a part has the columns of its leaves
      part-columns : (mask : ℕ) (c : ColId) → has_number c (child_columns (part_of block level conds leaves first mask)) ≡ has_number c (columns_in (set_of mask) columns)
      part-columns mask c = by (chosen (set_of mask) (single_parts block conds first leaves)) refl
        where
          several : has_number c (columns_of tables (part_tree block level conds leaves first (set_of mask))) ≡ has_number c (columns_in (set_of mask) columns)
          several = sym (set-columns tables (set_of mask) leaves (inside (set_of mask) columns conds) risen c)

          by : (some : List Child) → chosen (set_of mask) (single_parts block conds first leaves) ≡ some
              → has_number c (child_columns (one_or some (record { number = set_number block level conds leaves first mask; means = exactly (part_tree block level conds leaves first (set_of mask)) })))
              ≡ has_number c (columns_in (set_of mask) columns)
          by [] is = several
          by (single ∷ []) is =
              ap (has_number c) (sym (append-nil (child_columns single))) ∙ ap (λ some. has_number c (flat_map child_columns some)) (sym is) ∙ singles-columns (set_of mask) first leaves risen c
          by (single ∷ second ∷ rest) is = several

      left-apart : all_apart columns ≡ true → (mask left : ℕ) → is_left level mask left ≡ true
          → Apart (child_columns (part_of block level conds leaves first left)) (child_columns (part_of block level conds leaves first (bit_xor left mask)))
      left-apart apart mask left is c there =
          part-columns (bit_xor left mask) c
          ∙ disjoint-apart columns apart (set_of left) (set_of (bit_xor left mask)) (parts-disjoint mask left (left-inside level mask left is)) c (sym (part-columns left c) ∙ there)

  -- ---- any tree

  abbrev LieTwoApart : List Child → Type 0
  LieTwoApart (left ∷ right ∷ []) = Apart (child_columns left) (child_columns right)
  LieTwoApart _ = ⊥

  -- the sides of a join mean trees that have no column in common
  abbrev LieApart : Op → List Child → Type 0
  LieApart (op.Join kind conds) children = LieTwoApart children
  LieApart _ children = Unit {0}

  abbrev SidesLieApart : GroupOf → Type 0
  SidesLieApart group = AllByRecursion (λ expr. LieApart expr.operator expr.children) group.exprs

  second-apart : (block place : ℕ) (leaf : BlockLeaf) (some : List Cond) → AllByRecursion SidesLieApart (second_group block place leaf some)
  second-apart block place leaf [] = tt
  second-apart block place leaf (first ∷ rest) = ((tt, tt), tt)

  module _ (levels : ℕ → Level) where
    leaves-schemas : (leaves : List Tree) (before : Before)
        → map (λ (leaf : BlockLeaf). leaf.columns) (block_leaves tables levels (map (node_of tables levels) leaves) before) ≡ map rising (map (columns_of tables) leaves)
    leaves-schemas [] before = refl
    leaves-schemas (leaf ∷ leaves) before =
        ap₂ (λ a b. a ∷ b) (ap (λ t. rising (columns_of tables t)) (node-tree tables levels leaf)) (leaves-schemas leaves (passed before (node_of tables levels leaf)))

    leaves-apart : (leaves : List Tree) (before : Before) → all_apart (map (λ shape. shape.columns) (map (shape_of tables) leaves)) ≡ true
        → all_apart (map (λ leaf. leaf.columns) (block_leaves tables levels (map (node_of tables levels) leaves) before)) ≡ true
    leaves-apart leaves before apart =
        ap all_apart (leaves-schemas leaves before)
        ∙ all_apart-rising (map (columns_of tables) leaves) (ap all_apart (sym (map-map (λ (shape : Shape). shape.columns) (shape_of tables) leaves)) ∙ apart)

    join-apart : (kind : JoinKind) (conds : List Cond) (left right : Tree) → IsSound (join_shape kind conds (shape_of tables left) (shape_of tables right))
        → Apart (columns_of tables (node_of tables levels left).tree) (columns_of tables (node_of tables levels right).tree)
    join-apart kind conds left right sound c there =
        let l = shape_of tables left in
        let r = shape_of tables right in
        let more = (and_parts (l.sound && r.sound) (is_outer kind && (are_apart l.columns r.columns && all_typed (l.columns ++ r.columns) conds)) sound.nodes).1 in
        let apart = (and_parts (are_apart l.columns r.columns) (all_typed (l.columns ++ r.columns) conds) (and_parts (is_outer kind) (are_apart l.columns r.columns && all_typed (l.columns ++ r.columns) conds) more).1).0 in
        ap (λ t. has_number c (columns_of tables t)) (node-tree tables levels right)
        ∙ not_right r.columns c l.columns apart (ap (λ t. has_number c (columns_of tables t)) (sym (node-tree tables levels left)) ∙ there)

    own-apart : OfOwnGroups SidesLieApart tables levels
    own-apart = record {
      scan = λ number table alias cols sound. (tt, tt);
      filter = λ number t conds child. (tt, tt);
      project = λ number t items child. (tt, tt);
      block = λ leaves conds before parts.
          let after = passed_all before (map (node_of tables levels) leaves) in
          let sides = block_leaves tables levels (map (node_of tables levels) leaves) before in
          each-of_block SidesLieApart after.blocks conds (second-apart after.blocks) (levels after.blocks) sides after.groups
          (λ mask inside has. each-join (λ expr. LieApart expr.operator expr.children) after.blocks (levels after.blocks) conds sides after.groups mask
          (λ left less is. left-apart after.blocks conds (levels after.blocks) sides after.groups (leaves-risen tables levels (map (node_of tables levels) leaves) before) (leaves-apart leaves before parts.apart) mask left is));
      join = λ number t kind conds left right before sound. (join-apart kind conds left right sound, tt);
      group = λ keys aggs child before sound. ((tt, tt), ((tt, (tt, tt)), tt));
    }

  -- ---- by numbers

  module _ (useful : List ColId) (groups : List GroupOf) (named : AllByRecursion (Names tables) groups) where
    abbrev kept : List Group
    kept = map (kept_group useful) groups

    -- a child's group has the columns of what the child means
    schema-at : (child : Child) (group : Group) → IsAmong groups child → slice_get kept child.number ≡ Some group → (c : ColId) → has_number c group.schema ≡ has_number c (child_columns child)
    schema-at child group among there c =
        let at = found (λ (g : GroupOf). g.means) (slice_get groups child.number) child.means among in
        let means : at.0.means ≡ child.means = some-same at.0.means child.means (sym (ap (option_map (λ (g : GroupOf). g.means)) at.1) ∙ among) in
        let same : kept_group useful at.0 ≡ group =
        some-same (kept_group useful at.0) group (sym (ap (option_map (kept_group useful)) at.1) ∙ sym (slice_get-map (kept_group useful) groups child.number) ∙ there) in
        ap (λ (g : Group). has_number c g.schema) (sym same)
        ∙ names-number tables at.0 (all-at (Names tables) groups named child.number at.0 at.1) c
        ∙ ap (λ m. has_number c (columns_by tables m)) means

    two-apart : (children : List Child) → LieTwoApart children → AllByRecursion (IsAmong groups) children → AreTwoApart kept (map id_of children)
    two-apart [] apart among = apart
    two-apart (left ∷ []) apart among = apart
    two-apart (left ∷ right ∷ []) apart among = λ l r first second.
        are_apart-from l.schema r.schema (λ c there. schema-at right r among.1.0 second c ∙ apart c (sym (schema-at left l among.0 first c) ∙ there))
    two-apart (left ∷ right ∷ third ∷ rest) apart among = apart

    expr-apart : (operator : Op) (children : List Child) → LieApart operator children → AllByRecursion (IsAmong groups) children → HasApartSides kept operator (map id_of children)
    expr-apart (op.Join kind conds) children apart among = two-apart children apart among
    expr-apart _ children apart among = tt

    exprs-apart : (exprs : List ExprOf) → AllByRecursion (λ expr. LieApart expr.operator expr.children) exprs → AllByRecursion (λ expr. AllByRecursion (IsAmong groups) expr.children) exprs
        → AllByRecursion (λ expr. HasApartSides kept (kept_expr expr).op (kept_expr expr).children) exprs
    exprs-apart [] apart among = tt
    exprs-apart (expr ∷ exprs) apart among = (expr-apart expr.operator expr.children apart.0 among.0, exprs-apart exprs apart.1 among.1)

    groups-apart : (some : List GroupOf) → AllByRecursion SidesLieApart some → AllByRecursion (λ group. AllByRecursion (λ expr. AllByRecursion (IsAmong groups) expr.children) group.exprs) some
        → AllByRecursion (λ group. AllByRecursion (λ expr. HasApartSides kept (kept_expr expr).op (kept_expr expr).children) group.exprs) some
    groups-apart [] apart among = tt
    groups-apart (group ∷ some) apart among = (exprs-apart group.exprs apart.0 among.0, groups-apart some apart.1 among.1)

-- children that come before their groups are among all
pub all-among : (before groups : List GroupOf) → InOrder before groups → AllByRecursion (λ group. AllByRecursion (λ expr. AllByRecursion (IsAmong (before ++ groups)) expr.children) group.exprs) groups
all-among before [] order = tt
all-among before (group ∷ groups) order = (
  more group.exprs order.0,
  subst (λ all. AllByRecursion (λ (g : GroupOf). AllByRecursion (λ (expr : ExprOf). AllByRecursion (IsAmong all) expr.children) g.exprs) groups) (append_assoc before (group ∷ []) groups)
      (all-among (before ++ group ∷ []) groups order.1),
)
  where
    more : (exprs : List ExprOf) → AllByRecursion (λ expr. AllByRecursion (IsAmong before) expr.children) exprs → AllByRecursion (λ expr. AllByRecursion (IsAmong (before ++ group ∷ groups)) expr.children) exprs
    more [] all = tt
    more (expr ∷ exprs) all = (all-among-more before (group ∷ groups) expr.children all.0, more exprs all.1)

pub memo-sides : (contents : Contents) → IsMemo contents → OfEachExpr contents.groups (λ (expr : Expr). HasApartSides contents.groups expr.op expr.children)
memo-sides contents memo =
    let groups = groups_of memo.tables memo.levels memo.tree in
    let useful = useful_columns memo.tables memo.tree in
    let well = memo.plannable.well_formed in
    subst (λ (c : Contents). OfEachExpr c.groups (λ (expr : Expr). HasApartSides c.groups expr.op expr.children)) (sym memo.is)
    (kept-each (λ (expr : Expr). HasApartSides (map (kept_group useful) groups) expr.op expr.children) useful groups
    (groups-apart memo.tables useful groups (tree-named memo.tables memo.levels memo.tree at_first) groups
    (each-of_tree (SidesLieApart memo.tables) memo.tables memo.levels (own-apart memo.tables memo.levels) memo.tree (sound-tree memo.tables memo.tree well) at_first)
    (all-among [] groups (tree-ordered memo.tables memo.levels memo.tree well [] at_first refl).order)))
