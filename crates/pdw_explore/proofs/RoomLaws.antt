-- How many groups a memo has at any levels, and how many leaves its blocks have.
use Rattle.std.proofs.Common.{◌≡◌, ℕ, suc, ◌+◌, ◌*◌, ◌^◌, ◌≤◌, ◌==◌, ◌&&◌, leb, Bool, true, false, not, cond, List, [], ◌∷◌, ◌++◌, filter, length, map, sum, refl, sym, ap, subst, ◌∙◌, arith, length-append}
use Rattle.std.specs.List.{AllByRecursion}
use Rattle.std.proofs.lemmas.Bool.{and_parts, leb-true}
use Rattle.std.proofs.lemmas.List.{length-map}
use Rattle.pdw_algebra.proofs.TreeFolds.{Inductive, by_trees, fold-block, fold-filter, fold-group, fold-join, fold-project, fold-scan}
use Rattle.pdw_algebra.proofs.WellFormedParts.{IsSound, sound-block, sound-child, sound-filter, sound-join, sound-project, sound-tree}
use Rattle.pdw_algebra.specs.Shape.{Shape, is_empty, leaves_fit, shape_of, shape_step}
use Rattle.pdw_algebra.specs.declared.tree.Tree.{Tree}
use Rattle.pdw_algebra.specs.declared.tree.Tree.TheVariants as tree
use Rattle.pdw_algebra.specs.declared.tree.TheConstants.{MOST_LEAVES}
use Rattle.pdw_base.specs.declared.schema.ColId.{ColId}
use Rattle.pdw_catalog.specs.Catalog.{Tables}
use Rattle.pdw_expr.specs.declared.agg.Agg.{Agg}
use Rattle.pdw_expr.specs.declared.cond.Cond.{Cond}
use Rattle.pdw_explore.proofs.FewLeaves.{few-leaves}
use Rattle.pdw_explore.proofs.InTurn.{sum-first}
use Rattle.pdw_groups.proofs.SetGroupLemmas.{below-length}
use Rattle.pdw_groups.specs.Block.{BlockLeaf, block_groups, inside_leaf, second_group, second_groups, seconds, set_group}
use Rattle.pdw_groups.specs.Group.{id_of}
use Rattle.pdw_groups.specs.Level.{below, has_set}
use Rattle.pdw_groups.specs.Node.{Before, Node, block_leaves, block_node, groups_in_turn, grouping_groups, grouping_node, node_of, node_step, operator_node, own_block_groups, own_in_turn, own_part, parts_in_turn, passed, passed_all, whole_group}
use Rattle.pdw_groups.specs.declared.block.BlockPart.{BlockPart}
use Rattle.pdw_groups.specs.declared.block.Level.{Level}
use Rattle.pdw_groups.specs.declared.op.Op.{Op}
use Rattle.pdw_memo.specs.Memo.{IsPlannable, count_step, node_count}

-- ---- the groups of a block

second-most : (block place : ℕ) (leaf : BlockLeaf) (inside : List Cond) → length (second_group block place leaf inside) ≤ 1
second-most block place leaf [] = omega arith
second-most block place leaf (first ∷ rest) = omega arith

seconds-most : (block : ℕ) (conds : List Cond) (place : ℕ) (leaves : List BlockLeaf) → length (second_groups block conds place leaves) ≤ length leaves
seconds-most block conds place [] = omega arith
seconds-most block conds place (leaf ∷ leaves) =
    let one = second-most block place leaf (inside_leaf block conds leaf) in
    let rest = seconds-most block conds (suc place) leaves in
    let sum = length-append (second_group block place leaf (inside_leaf block conds leaf)) (second_groups block conds (suc place) leaves) in
    omega (arith, one, rest, sum)

pub kept-most : (test : ℕ → Bool) (xs : List ℕ) → length (filter test xs) ≤ length xs
kept-most test [] = omega arith
kept-most test (x ∷ xs) = by (test x) (kept-most test xs)
  where
    by : (b : Bool) → length (filter test xs) ≤ length xs → length (cond b (x ∷ filter test xs) (filter test xs)) ≤ suc (length xs)
    by true rest = omega (arith, rest)
    by false rest = omega (arith, rest)

block-most : (block : ℕ) (level : Level) (conds : List Cond) (leaves : List BlockLeaf) (first : ℕ) → length leaves ≤ 10 → length (block_groups block level conds leaves first) ≤ 1034
block-most block level conds leaves first few =
    let masks = filter (has_set level) (below (2 ^ length leaves)) in
    let sum = length-append (seconds block level conds leaves first) (map (set_group block level conds leaves first) masks) in
    let sets = length-map masks (set_group block level conds leaves first) in
    let kept = kept-most (has_set level) (below (2 ^ length leaves)) in
    let all = below-length (2 ^ length leaves) in
    let ones = seconds-most block conds 0 leaves in
    let powers = (few-leaves (length leaves) few).two in
    omega (arith, sum, sets, kept, all, ones, powers, few)

pub few-fit : (count : ℕ) (conds : List Cond) → leaves_fit count conds ≡ true → count ≤ 10
few-fit count conds fits =
    leb-true count MOST_LEAVES (and_parts (leb count MOST_LEAVES) (not ((count == 1) && is_empty conds)) (and_parts (leb 1 count) (leb count MOST_LEAVES && not ((count == 1) && is_empty conds)) fits).1).0

-- ---- nodes

abbrev pub Few : List BlockPart → Type 0
Few parts = AllByRecursion (λ part. length part.leaves ≤ 10) parts

few-append : (xs ys : List BlockPart) → Few xs → Few ys → Few (xs ++ ys)
few-append [] ys first second = second
few-append (x ∷ xs) ys first second = (first.0, few-append xs ys first.1 second)

-- a node of this many nodes has few groups, and few leaves in each block
pub record IsSmall (node : Node) (count : ℕ) : Type 0 where
  pub groups : (before : Before) → length (node.groups before) ≤ 1034 * count
  pub parts : (before : Before) → Few (node.parts before)

module _ (tables : Tables) (levels : ℕ → Level) where
  abbrev steps : Tree → Node
  steps = node_of tables levels

  abbrev SmallTree : Tree → Type 0
  SmallTree t = IsSound (shape_of tables t) → IsSmall (steps t) (node_count t)

  abbrev Small : Tree → Type 0
  Small t = IsSmall (steps t) (node_count t)

  groups-small : (trees : List Tree) → AllByRecursion Small trees → (before : Before) → length (groups_in_turn (map steps trees) before) ≤ 1034 * sum (map node_count trees)
  groups-small [] all before = omega arith
  groups-small (t ∷ trees) all before =
      let first = all.0.groups before in
      let rest = groups-small trees all.1 (passed before (steps t)) in
      let lengths = length-append ((steps t).groups before) (groups_in_turn (map steps trees) (passed before (steps t))) in
      let counts = sum-first (node_count t) (map node_count trees) in
      omega (arith, first, rest, lengths, counts)

  parts-small : (trees : List Tree) → AllByRecursion Small trees → (before : Before) → Few (parts_in_turn (map steps trees) before)
  parts-small [] all before = tt
  parts-small (t ∷ trees) all before =
      few-append ((steps t).parts before) (parts_in_turn (map steps trees) (passed before (steps t))) (all.0.parts before) (parts-small trees all.1 (passed before (steps t)))

  operator-small : (t : Tree) (operator : Op) (trees : List Tree) (count : ℕ) → AllByRecursion Small trees → count ≡ suc (sum (map node_count trees)) → IsSmall (operator_node tables levels t operator (map steps trees)) count
  operator-small t operator trees count all is = record {
    groups = λ before.
        let rest = groups-small trees all before in
        let lengths =
        length-append (groups_in_turn (map steps trees) before)
        (whole_group tables levels (passed_all before (map steps trees)).operators t (record { operator = operator; children = own_in_turn (map steps trees) before } ∷ []) ∷ []) in
        omega (arith, rest, lengths, is);
    parts = λ before. parts-small trees all before;
  }

  leaves-count : (nodes : List Node) (before : Before) → length (block_leaves tables levels nodes before) ≡ length nodes
  leaves-count [] before = refl
  leaves-count (node ∷ nodes) before = ap suc (leaves-count nodes (passed before node))

  pub own-count : (nodes : List Node) (before : Before) → length (map id_of (own_in_turn nodes before)) ≡ length nodes
  own-count [] before = refl
  own-count (node ∷ nodes) before = ap suc (own-count nodes (passed before node))

  block-small : (leaves : List Tree) (conds : List Cond) (count : ℕ) → AllByRecursion Small leaves → length leaves ≤ 10 → count ≡ suc (sum (map node_count leaves)) → IsSmall (block_node tables levels conds (map steps leaves)) count
  block-small leaves conds count all few is =
      let nodes = map steps leaves in
      let counted = length-map leaves steps in
      record {
        groups = λ before.
            let rest = groups-small leaves all before in
            let after = passed_all before nodes in
            let these = leaves-count nodes before in
            let own = block-most after.blocks (levels after.blocks) conds (block_leaves tables levels nodes before) after.groups (omega (arith, these, counted, few)) in
            let lengths = length-append (groups_in_turn nodes before) (own_block_groups tables levels conds nodes before) in
            omega (arith, rest, own, lengths, is);
        parts = λ before.
            let these = own-count nodes before in
            let own : length (map id_of (own_in_turn nodes before)) ≤ 10 = omega (arith, these, counted, few) in
            few-append (parts_in_turn nodes before) (own_part tables levels conds nodes before ∷ []) (parts-small leaves all before) (own, tt);
      }

  grouping-small : (keys : List ColId) (aggs : List Agg) (child : Tree) (count : ℕ) → Small child → count ≡ suc (node_count child) → IsSmall (grouping_node tables levels keys aggs (steps child)) count
  grouping-small keys aggs child count small is = record {
    groups = λ before.
        let rest = small.groups before in
        let lengths = length-append ((steps child).groups before) (grouping_groups tables levels keys aggs (steps child) before) in
        omega (arith, rest, lengths, is);
    parts = λ before. small.parts before;
  }

  -- ---- any tree

  from_layer : (t : Tree) (node : Node) (shape : Shape) → steps t ≡ node → shape_of tables t ≡ shape → (IsSound shape → IsSmall node (node_count t)) → SmallTree t
  from_layer t node shape is_node is_shape holds sound = subst (λ n. IsSmall n (node_count t)) (sym is_node) (holds (subst IsSound is_shape sound))

  each-small : (leaves : List Tree) → AllByRecursion SmallTree leaves → AllByRecursion IsSound (map (shape_of tables) leaves) → AllByRecursion Small leaves
  each-small [] all sound = tt
  each-small (leaf ∷ leaves) all sound = (all.0 sound.0, each-small leaves all.1 sound.1)

  one-count : (child : Tree) → suc (node_count child) ≡ suc (sum (node_count child ∷ []))
  one-count child = let all = sum-first (node_count child) [] in omega (arith, all)

  two-count : (left right : Tree) → suc (node_count left + node_count right) ≡ suc (sum (node_count left ∷ node_count right ∷ []))
  two-count left right =
      let all = sum-first (node_count left) (node_count right ∷ []) in
      let rest = sum-first (node_count right) [] in
      omega (arith, all, rest)

  cases : Inductive SmallTree
  cases = record {
    scan = λ table alias cols.
        from_layer (tree.Scan table alias cols) _ _ (fold-scan (node_step tables levels) table alias cols) (fold-scan (shape_step tables) table alias cols)
        (λ sound. operator-small _ _ [] _ tt (fold-scan count_step table alias cols));
    filter = λ conds child holds.
        from_layer (tree.Filter conds child) _ _ (fold-filter (node_step tables levels) conds child) (fold-filter (shape_step tables) conds child)
        (λ sound. operator-small _ _ (child ∷ []) _ (holds (sound-filter (shape_of tables child) _ (shape_of tables child).made _ sound), tt) (fold-filter count_step conds child ∙ one-count child));
    project = λ items child holds.
        from_layer (tree.Project items child) _ _ (fold-project (node_step tables levels) items child) (fold-project (shape_step tables) items child)
        (λ sound. operator-small _ _ (child ∷ []) _ (holds (sound-project items (shape_of tables child) sound), tt) (fold-project count_step items child ∙ one-count child));
    block = λ leaves conds all.
        from_layer (tree.Block leaves conds) _ _ (fold-block (node_step tables levels) leaves conds) (fold-block (shape_step tables) leaves conds)
        (λ sound.
        let parts = sound-block (map (shape_of tables) leaves) conds sound in
        block-small leaves conds _ (each-small leaves all parts.each) (few-fit (length leaves) conds (ap (λ n. leaves_fit n conds) (sym (length-map leaves (shape_of tables))) ∙ parts.fits)) (fold-block count_step leaves conds));
    join = λ kind conds left right first second.
        from_layer (tree.Join kind conds left right) _ _ (fold-join (node_step tables levels) kind conds left right) (fold-join (shape_step tables) kind conds left right)
        (λ sound.
        let both = sound-join kind conds (shape_of tables left) (shape_of tables right) sound in
        operator-small _ _ (left ∷ right ∷ []) _ (first both.0, (second both.1, tt)) (fold-join count_step kind conds left right ∙ two-count left right));
    group = λ keys aggs child holds.
        from_layer (tree.GroupBy keys aggs child) _ _ (fold-group (node_step tables levels) keys aggs child) (fold-group (shape_step tables) keys aggs child)
        (λ sound. grouping-small keys aggs child _ (holds (sound-child keys aggs (shape_of tables child) sound)) (fold-group count_step keys aggs child));
  }

  pub tree-small : (t : Tree) → IsPlannable tables t → IsSmall (steps t) (node_count t)
  tree-small t plannable = by_trees SmallTree cases t (sound-tree tables t plannable.well_formed)
