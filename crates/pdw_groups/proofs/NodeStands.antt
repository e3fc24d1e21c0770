-- Each expression of a tree's groups stands for its group.
use Rattle.std.proofs.Common.{◌≡◌, ℕ, suc, ◌^◌, Bool, true, false, cond, List, [], ◌∷◌, length, map, filter, refl, sym, ap, ap₂, subst, ◌∙◌}
use Rattle.std.specs.List.{AllByRecursion}
use Rattle.std.proofs.lemmas.Simd.{map-map}
use Rattle.pdw_algebra.proofs.AllLaws.{all-append}
use Rattle.pdw_algebra.proofs.RowsWithin.{rows-within}
use Rattle.pdw_algebra.proofs.TreeFolds.{Inductive, by_trees, fold-block, fold-filter, fold-group, fold-join, fold-project, fold-scan}
use Rattle.pdw_algebra.proofs.WellFormedParts.{IsSound, keys-apart, sound-block, sound-child, sound-filter, sound-join, sound-project, sound-tree}
use Rattle.pdw_algebra.specs.Meaning.{rows_of}
use Rattle.pdw_algebra.specs.Schema.{rising}
use Rattle.pdw_algebra.specs.Shape.{Shape, all_apart, columns_of, shape_of, shape_step}
use Rattle.pdw_algebra.specs.WellFormed.{IsWellFormed}
use Rattle.pdw_algebra.specs.Within.{AllWithin}
use Rattle.pdw_algebra.specs.declared.tree.Tree.{Tree}
use Rattle.pdw_algebra.specs.declared.tree.Tree.TheVariants as tree
use Rattle.pdw_catalog.specs.Catalog.{Tables}
use Rattle.pdw_catalog.specs.Database.{Database}
use Rattle.pdw_expr.specs.declared.cond.Cond.{Cond}
use Rattle.pdw_groups.proofs.NodeTree.{node-tree}
use Rattle.pdw_groups.proofs.OperatorLaws.{stands-filter, stands-final, stands-group, stands-join, stands-leaf, stands-partial, stands-project, stands-scan}
use Rattle.pdw_groups.proofs.PartStands.{as_leaf, stands-parts}
use Rattle.pdw_groups.proofs.SchemaLaws.{all-within-rising, all_apart-rising}
use Rattle.pdw_groups.specs.Block.{BlockLeaf, block_groups, inside_leaf, join_of, second_group, second_groups, seconds, set_group}
use Rattle.pdw_groups.specs.Group.{EachStands, ExprOf, GroupOf, meanings}
use Rattle.pdw_groups.specs.Level.{below, has_set, is_left}
use Rattle.pdw_groups.specs.Meaning.{Stands}
use Rattle.pdw_groups.specs.Node.{Before, Node, block_leaves, groups_in_turn, node_of, node_step, passed}
use Rattle.pdw_groups.specs.declared.block.Level.{Level}
use Rattle.pdw_parts.specs.Part.{AreLeaves, Leaf}

all-filtered : {X Y : Type 0} (P : Y → Type 0) (f : X → Y) (test : X → Bool) → ((x : X) → test x ≡ true → P (f x)) → (xs : List X) → AllByRecursion P (map f (filter test xs))
all-filtered P f test holds [] = tt
all-filtered P f test holds (x ∷ xs) = by (test x) refl (all-filtered P f test holds xs)
  where
    by : (b : Bool) → test x ≡ b → AllByRecursion P (map f (filter test xs)) → AllByRecursion P (map f (cond b (x ∷ filter test xs) (filter test xs)))
    by true is rest = (holds x is, rest)
    by false is rest = rest

module _ (database : Database) where
  abbrev AllStand : List GroupOf → Type 0
  AllStand groups = AllByRecursion (EachStands database) groups

  -- ---- blocks

  second-stands : (block place : ℕ) (leaf : BlockLeaf) (conds : List Cond) → AllStand (second_group block place leaf conds)
  second-stands block place leaf [] = tt
  second-stands block place leaf (first ∷ rest) = ((stands-leaf database leaf.tree (first ∷ rest), tt), tt)

  seconds-stand : (block place : ℕ) (conds : List Cond) (leaves : List BlockLeaf) → AllStand (second_groups block conds place leaves)
  seconds-stand block place conds [] = tt
  seconds-stand block place conds (leaf ∷ leaves) =
      all-append (EachStands database) (second_group block place leaf (inside_leaf block conds leaf)) (second_groups block conds (suc place) leaves)
      (second-stands block place leaf (inside_leaf block conds leaf)) (seconds-stand block (suc place) conds leaves)

  block-stands : (block : ℕ) (level : Level) (conds : List Cond) (leaves : List BlockLeaf) (first : ℕ) → AreLeaves (map (as_leaf database) leaves)
      → AllStand (block_groups block level conds leaves first)
  block-stands block level conds leaves first sound =
      all-append (EachStands database) (seconds block level conds leaves first) (map (set_group block level conds leaves first) (filter (has_set level) (below (2 ^ length leaves))))
      (seconds-stand block 0 conds leaves)
      (all-filtered (EachStands database) (set_group block level conds leaves first) (has_set level)
      (λ mask is. all-filtered (λ (expr : ExprOf). Stands database (set_group block level conds leaves first mask).means expr.operator (meanings expr.children))
      (join_of block level conds leaves first mask) (is_left level mask) (λ left is. stands-parts database block level conds leaves first sound mask left is) (below mask))
      (below (2 ^ length leaves)))

  module _ (tables : Tables) (levels : ℕ → Level) where
    -- ---- leaves

    leaves-each : (nodes : List Node) (before : Before) → AllByRecursion (λ (leaf : Leaf). AllWithin leaf.columns leaf.rows) (map (as_leaf database) (block_leaves tables levels nodes before))
    leaves-each [] before = tt
    leaves-each (node ∷ nodes) before =
        (all-within-rising (columns_of tables node.tree) (rows_of database node.tree) (rows-within tables database node.tree), leaves-each nodes (passed before node))

    leaves-columns : (leaves : List Tree) (before : Before)
        → map (λ (leaf : Leaf). leaf.columns) (map (as_leaf database) (block_leaves tables levels (map (node_of tables levels) leaves) before)) ≡ map rising (map (columns_of tables) leaves)
    leaves-columns [] before = refl
    leaves-columns (leaf ∷ leaves) before =
        ap₂ (λ a b. a ∷ b) (ap (λ t. rising (columns_of tables t)) (node-tree tables levels leaf)) (leaves-columns leaves (passed before (node_of tables levels leaf)))

    are-leaves : (leaves : List Tree) (before : Before) → all_apart (map (λ (shape : Shape). shape.columns) (map (shape_of tables) leaves)) ≡ true
        → AreLeaves (map (as_leaf database) (block_leaves tables levels (map (node_of tables levels) leaves) before))
    are-leaves leaves before apart = record {
      each = leaves-each (map (node_of tables levels) leaves) before;
      apart =
          ap all_apart (leaves-columns leaves before)
          ∙ all_apart-rising (map (columns_of tables) leaves) (ap all_apart (sym (map-map (λ (shape : Shape). shape.columns) (shape_of tables) leaves)) ∙ apart);
    }

    -- ---- any tree

    abbrev Standing : Node → Type 0
    Standing node = (before : Before) → AllStand (node.groups before)

    abbrev TreeStands : Tree → Type 0
    TreeStands t = IsSound (shape_of tables t) → Standing (node_of tables levels t)

    all-in_turn : (nodes : List Node) → AllByRecursion Standing nodes → (before : Before) → AllStand (groups_in_turn nodes before)
    all-in_turn [] all before = tt
    all-in_turn (node ∷ nodes) all before =
        all-append (EachStands database) (node.groups before) (groups_in_turn nodes (passed before node)) (all.0 before) (all-in_turn nodes all.1 (passed before node))

    from_layer : (t : Tree) (node : Node) (shape : Shape) → node_of tables levels t ≡ node → shape_of tables t ≡ shape → (IsSound shape → Standing node) → TreeStands t
    from_layer t node shape is_node is_shape holds sound = subst Standing (sym is_node) (holds (subst IsSound is_shape sound))

    leaves-stand : (leaves : List Tree) → AllByRecursion TreeStands leaves → AllByRecursion IsSound (map (shape_of tables) leaves) → AllByRecursion Standing (map (node_of tables levels) leaves)
    leaves-stand [] all sound = tt
    leaves-stand (leaf ∷ leaves) all sound = (all.0 sound.0, leaves-stand leaves all.1 sound.1)

    abbrev steps : Tree → Node
    steps = node_of tables levels

    cases : Inductive TreeStands
    cases = record {
      scan = λ table alias cols.
          from_layer (tree.Scan table alias cols) _ _ (fold-scan (node_step tables levels) table alias cols) (fold-scan (shape_step tables) table alias cols)
          (λ sound before. ((stands-scan database table alias cols _ _, tt), tt));
      filter = λ conds child holds.
          from_layer (tree.Filter conds child) _ _ (fold-filter (node_step tables levels) conds child) (fold-filter (shape_step tables) conds child)
          (λ sound before.
          all-append (EachStands database) (groups_in_turn (steps child ∷ []) before) _
          (all-in_turn (steps child ∷ []) (holds (sound-filter (shape_of tables child) _ (shape_of tables child).made _ sound), tt) before)
          ((stands-filter database conds (steps child).tree, tt), tt));
      project = λ items child holds.
          from_layer (tree.Project items child) _ _ (fold-project (node_step tables levels) items child) (fold-project (shape_step tables) items child)
          (λ sound before.
          all-append (EachStands database) (groups_in_turn (steps child ∷ []) before) _
          (all-in_turn (steps child ∷ []) (holds (sound-project items (shape_of tables child) sound), tt) before)
          ((stands-project database items (steps child).tree, tt), tt));
      block = λ leaves conds all.
          from_layer (tree.Block leaves conds) _ _ (fold-block (node_step tables levels) leaves conds) (fold-block (shape_step tables) leaves conds)
          (λ sound before.
          let parts = sound-block (map (shape_of tables) leaves) conds sound in
          all-append (EachStands database) (groups_in_turn (map steps leaves) before) _
          (all-in_turn (map steps leaves) (leaves-stand leaves all parts.each) before)
          (block-stands _ _ conds (block_leaves tables levels (map steps leaves) before) _ (are-leaves leaves before parts.apart)));
      join = λ kind conds left right first second.
          from_layer (tree.Join kind conds left right) _ _ (fold-join (node_step tables levels) kind conds left right) (fold-join (shape_step tables) kind conds left right)
          (λ sound before.
          let both = sound-join kind conds (shape_of tables left) (shape_of tables right) sound in
          all-append (EachStands database) (groups_in_turn (steps left ∷ steps right ∷ []) before) _
          (all-in_turn (steps left ∷ steps right ∷ []) (first both.0, (second both.1, tt)) before)
          ((stands-join database kind conds (steps left).tree (steps right).tree, tt), tt));
      group = λ keys aggs child holds.
          from_layer (tree.GroupBy keys aggs child) _ _ (fold-group (node_step tables levels) keys aggs child) (fold-group (shape_step tables) keys aggs child)
          (λ sound before.
          all-append (EachStands database) ((steps child).groups before) _
          (holds (sound-child keys aggs (shape_of tables child) sound) before) (
            (stands-partial database keys aggs (steps child).tree, tt),
            ((stands-group database keys aggs (steps child).tree, (stands-final database keys aggs (steps child).tree (keys-apart tables keys aggs child sound), tt)), tt),
          ));
    }

    -- each expression of each group of a well-formed tree
    pub tree-stands : (t : Tree) → IsWellFormed tables t → (before : Before) → AllStand ((node_of tables levels t).groups before)
    tree-stands t well = by_trees TreeStands cases t (sound-tree tables t well)
