-- How many groups, blocks and operators the nodes of a tree have.
use Rattle.std.proofs.Common.{◌≡◌, ℕ, suc, ◌+◌, ◌*◌, ◌^◌, ◌<◌, ◌≤◌, Bool, true, false, cond, List, [], ◌∷◌, length, map, filter, sum, refl, sym, ap, ap₂, subst, ◌∙◌, arith, length-append}
use Rattle.std.specs.List.{AllByRecursion, list_all}
use Rattle.std.proofs.lemmas.Bool.{and_parts}
use Rattle.std.proofs.lemmas.List.{length-map}
use Rattle.std.proofs.lemmas.List.Sums.{sum_by-cons}
use Rattle.std.proofs.Math.Pow.{pow_mono}
use Rattle.pdw_algebra.proofs.AllLaws.{all-append}
use Rattle.pdw_algebra.proofs.TreeFolds.{Inductive, by_trees, fold-block, fold-filter, fold-group, fold-join, fold-project, fold-scan}
use Rattle.pdw_algebra.specs.Shape.{Shape, leaves_fit, shape_of}
use Rattle.pdw_algebra.specs.declared.tree.Tree.{Tree}
use Rattle.pdw_algebra.specs.declared.tree.Tree.TheVariants as tree
use Rattle.pdw_base.specs.declared.schema.ColId.{ColId}
use Rattle.pdw_catalog.specs.Catalog.{Tables}
use Rattle.pdw_expr.specs.declared.agg.Agg.{Agg}
use Rattle.pdw_expr.specs.declared.cond.Cond.{Cond}
use Rattle.pdw_groups.proofs.BlockWhole.{some-leaf}
use Rattle.pdw_groups.proofs.PartOrder.{below-less}
use Rattle.pdw_groups.proofs.SetGroupLemmas.{below-length}
use Rattle.pdw_groups.specs.Block.{BlockLeaf, block_groups, inside_leaf, join_of, second_group, second_groups, seconds, set_group}
use Rattle.pdw_groups.specs.Group.{GroupOf}
use Rattle.pdw_groups.specs.Level.{below, has_set, is_left, lefts}
use Rattle.pdw_groups.specs.Node.{Before, Node, block_leaves, block_node, blocks_in, groups_in_turn, grouping_groups, grouping_node, node_of, node_step, operator_node, operators_in, own_block_groups, own_in_turn, parts_in_turn, passed, passed_all, whole_group}
use Rattle.pdw_groups.specs.declared.block.Level.{Level}
use Rattle.pdw_groups.specs.declared.op.Op.{Op}
use Rattle.pdw_memo.proofs.SoundParts.{block-parts, few-leaves, filter-child, group-child, join-children, project-child}
use Rattle.pdw_memo.specs.Memo.{count_step, node_count}

-- ---- lists

pub filter-most : {X : Type 0} (test : X → Bool) (xs : List X) → length (filter test xs) ≤ length xs
filter-most test [] = omega arith
filter-most test (x ∷ xs) = by (test x) (filter-most test xs)
  where
    by : (b : Bool) → length (filter test xs) ≤ length xs → length (cond b (x ∷ filter test xs) (filter test xs)) ≤ suc (length xs)
    by true most = omega (arith, most)
    by false most = omega (arith, most)

pub filter-all : {X : Type 0} (P : X → Type 0) (test : X → Bool) (xs : List X) → AllByRecursion P xs → AllByRecursion P (filter test xs)
filter-all P test [] all = tt
filter-all P test (x ∷ xs) all = by (test x) (filter-all P test xs all.1)
  where
    by : (b : Bool) → AllByRecursion P (filter test xs) → AllByRecursion P (cond b (x ∷ filter test xs) (filter test xs))
    by true rest = (all.0, rest)
    by false rest = rest

pub map-all : {X Y : Type 0} (P : X → Type 0) (Q : Y → Type 0) (f : X → Y) → ((x : X) → P x → Q (f x)) → (xs : List X) → AllByRecursion P xs → AllByRecursion Q (map f xs)
map-all P Q f holds [] all = tt
map-all P Q f holds (x ∷ xs) all = (holds x all.0, map-all P Q f holds xs all.1)

pub sum-cons : (n : ℕ) (ns : List ℕ) → sum (n ∷ ns) ≡ n + sum ns
sum-cons n ns = sum_by-cons (λ k. k) n ns

one-sum : (n : ℕ) → sum (n ∷ []) ≡ n
one-sum n = sum-cons n [] ∙ (let same : n + 0 ≡ n = omega arith in same)

two-sum : (m n : ℕ) → sum (m ∷ n ∷ []) ≡ m + n
two-sum m n = sum-cons m (n ∷ []) ∙ ap (λ k. m + k) (one-sum n)

pub blocks-cons : (node : Node) (nodes : List Node) → blocks_in (node ∷ nodes) ≡ node.blocks + blocks_in nodes
blocks-cons node nodes = sum-cons node.blocks (map (λ (node : Node). node.blocks) nodes)

pub operators-cons : (node : Node) (nodes : List Node) → operators_in (node ∷ nodes) ≡ node.operators + operators_in nodes
operators-cons node nodes = sum-cons node.operators (map (λ (node : Node). node.operators) nodes)

-- ---- groups

-- a group has at most 1,024 expressions
abbrev pub IsFew : GroupOf → Type 0
IsFew group = length group.exprs ≤ 1024

pub record Counted (node : Node) (count : ℕ) : Type 0 where
  pub some : (before : Before) → 0 < length (node.groups before)
  pub most : (before : Before) → length (node.groups before) ≤ 1034 * count
  pub few : (before : Before) → AllByRecursion IsFew (node.groups before)
  pub parts : (before : Before) → length (node.parts before) ≡ node.blocks
  pub blocks : node.blocks ≤ count
  pub operators : node.operators ≤ count

abbrev pub CountedEach : List Node → List ℕ → Type 0
CountedEach [] [] = Unit {0}
CountedEach [] (count ∷ counts) = ⊥
CountedEach (node ∷ nodes) [] = ⊥
CountedEach (node ∷ nodes) (count ∷ counts) = Counted node count × CountedEach nodes counts

record InTurn (nodes : List Node) (count : ℕ) : Type 0 where
  most : (before : Before) → length (groups_in_turn nodes before) ≤ 1034 * count
  few : (before : Before) → AllByRecursion IsFew (groups_in_turn nodes before)
  parts : (before : Before) → length (parts_in_turn nodes before) ≡ blocks_in nodes
  blocks : blocks_in nodes ≤ count
  operators : operators_in nodes ≤ count

in-turn : (nodes : List Node) (counts : List ℕ) → CountedEach nodes counts → InTurn nodes (sum counts)
in-turn [] [] each = record { most = λ before. omega arith; few = λ before. tt; parts = λ before. refl; blocks = omega arith; operators = omega arith }
in-turn [] (count ∷ counts) each = absurd each
in-turn (node ∷ nodes) [] each = absurd each
in-turn (node ∷ nodes) (count ∷ counts) each =
    let rest = in-turn nodes counts each.1 in
    let here = each.0 in
    let total = sum-cons count counts in
    record {
      most = λ before.
          let one = here.most before in
          let more = rest.most (passed before node) in
          let all : length (groups_in_turn (node ∷ nodes) before) ≡ length (node.groups before) + length (groups_in_turn nodes (passed before node)) = length-append (node.groups before) (groups_in_turn nodes (passed before node)) in
          omega (arith, one, more, all, total);
      few = λ before. all-append IsFew (node.groups before) (groups_in_turn nodes (passed before node)) (here.few before) (rest.few (passed before node));
      parts = λ before.
          length-append (node.parts before) (parts_in_turn nodes (passed before node)) ∙ ap₂ (λ a b. a + b) (here.parts before) (rest.parts (passed before node)) ∙ sym (blocks-cons node nodes);
      blocks = let one = here.blocks in let more = rest.blocks in let all = blocks-cons node nodes in omega (arith, one, more, all, total);
      operators = let one = here.operators in let more = rest.operators in let all = operators-cons node nodes in omega (arith, one, more, all, total);
    }

module _ (tables : Tables) (levels : ℕ → Level) where
  operator-counted : (t : Tree) (operator : Op) (nodes : List Node) (counts : List ℕ) (count : ℕ) → CountedEach nodes counts → count ≡ suc (sum counts) → Counted (operator_node tables levels t operator nodes) count
  operator-counted t operator nodes counts count each is =
      let turn = in-turn nodes counts each in
      let last = λ (before : Before). whole_group tables levels (passed_all before nodes).operators t (record { operator = operator; children = own_in_turn nodes before } ∷ []) in
      let all = λ (before : Before). length-append (groups_in_turn nodes before) (last before ∷ []) in
      record {
        some = λ before. let these = all before in omega (arith, these);
        most = λ before. let these = all before in let one = turn.most before in omega (arith, these, one, is);
        few = λ before. all-append IsFew (groups_in_turn nodes before) (last before ∷ []) (turn.few before) (omega arith, tt);
        parts = turn.parts;
        blocks = let one = turn.blocks in omega (arith, one, is);
        operators = let one = turn.operators in omega (arith, one, is);
      }

  grouping-counted : (keys : List ColId) (aggs : List Agg) (child : Node) (count : ℕ) → Counted child count → Counted (grouping_node tables levels keys aggs child) (suc count)
  grouping-counted keys aggs child count here =
      let all = λ (before : Before). let these : length ((grouping_node tables levels keys aggs child).groups before) ≡ length (child.groups before) + 2 = length-append (child.groups before) (grouping_groups tables levels keys aggs child before) in these in
      record {
        some = λ before. let these = all before in omega (arith, these);
        most = λ before. let these = all before in let one = here.most before in omega (arith, these, one);
        few = λ before. all-append IsFew (child.groups before) (grouping_groups tables levels keys aggs child before) (here.few before) (omega arith, (omega arith, tt));
        parts = here.parts;
        blocks = let one = here.blocks in omega (arith, one);
        operators = let one = here.operators in omega (arith, one);
      }

-- ---- blocks

second-most : (block place : ℕ) (leaf : BlockLeaf) (inside : List Cond) → length (second_group block place leaf inside) ≤ 1
second-most block place leaf [] = omega arith
second-most block place leaf (first ∷ rest) = omega arith

seconds-most : (block : ℕ) (conds : List Cond) (place : ℕ) (leaves : List BlockLeaf) → length (second_groups block conds place leaves) ≤ length leaves
seconds-most block conds place [] = omega arith
seconds-most block conds place (leaf ∷ leaves) =
    let one = second-most block place leaf (inside_leaf block conds leaf) in
    let more = seconds-most block conds (suc place) leaves in
    let all = length-append (second_group block place leaf (inside_leaf block conds leaf)) (second_groups block conds (suc place) leaves) in
    omega (arith, one, more, all)

second-few : (block place : ℕ) (leaf : BlockLeaf) (inside : List Cond) → AllByRecursion IsFew (second_group block place leaf inside)
second-few block place leaf [] = tt
second-few block place leaf (first ∷ rest) = (omega arith, tt)

seconds-few : (block : ℕ) (conds : List Cond) (place : ℕ) (leaves : List BlockLeaf) → AllByRecursion IsFew (second_groups block conds place leaves)
seconds-few block conds place [] = tt
seconds-few block conds place (leaf ∷ leaves) =
    all-append IsFew (second_group block place leaf (inside_leaf block conds leaf)) (second_groups block conds (suc place) leaves) (second-few block place leaf (inside_leaf block conds leaf)) (seconds-few block conds (suc place) leaves)

pub sets-most : (count : ℕ) → count ≤ 10 → 2 ^ count ≤ 1024
sets-most count few = pow_mono few

module _ (block : ℕ) (level : Level) (conds : List Cond) (leaves : List BlockLeaf) (first : ℕ) (fits : length leaves ≤ 10) where
  abbrev masks : List ℕ
  masks = filter (has_set level) (below (2 ^ length leaves))

  own-most : length (block_groups block level conds leaves first) ≤ 1034
  own-most =
      let all = length-append (seconds block level conds leaves first) (map (set_group block level conds leaves first) masks) in
      let one = seconds-most block conds 0 leaves in
      let count = length-map masks (set_group block level conds leaves first) in
      let some = filter-most (has_set level) (below (2 ^ length leaves)) in
      let whole = below-length (2 ^ length leaves) in
      let most = sets-most (length leaves) fits in
      omega (arith, all, one, count, some, whole, most, fits)

  few-lefts : (mask : ℕ) → mask < 2 ^ length leaves → IsFew (set_group block level conds leaves first mask)
  few-lefts mask less =
      let count = length-map (lefts level mask) (join_of block level conds leaves first mask) in
      let some = filter-most (is_left level mask) (below mask) in
      let whole = below-length mask in
      let most = sets-most (length leaves) fits in
      omega (arith, count, some, whole, most, less)

  own-few : AllByRecursion IsFew (block_groups block level conds leaves first)
  own-few =
      all-append IsFew (seconds block level conds leaves first) (map (set_group block level conds leaves first) masks) (seconds-few block conds 0 leaves)
      (map-all (λ mask. mask < 2 ^ length leaves) IsFew (set_group block level conds leaves first) few-lefts masks
      (filter-all (λ mask. mask < 2 ^ length leaves) (has_set level) (below (2 ^ length leaves)) (below-less (2 ^ length leaves) (2 ^ length leaves) (omega arith))))

module _ (tables : Tables) (levels : ℕ → Level) where
  pub leaf-count : (nodes : List Node) (before : Before) → length (block_leaves tables levels nodes before) ≡ length nodes
  leaf-count [] before = refl
  leaf-count (node ∷ nodes) before = ap suc (leaf-count nodes (passed before node))

  some-first : (nodes : List Node) (counts : List ℕ) → CountedEach nodes counts → (before : Before) → 1 ≤ length nodes → 0 < length (groups_in_turn nodes before)
  some-first [] counts each before some = absurd (omega (arith, some))
  some-first (node ∷ nodes) [] each before some = absurd each
  some-first (node ∷ nodes) (count ∷ counts) each before some =
      let one = each.0.some before in
      let all : length (groups_in_turn (node ∷ nodes) before) ≡ length (node.groups before) + length (groups_in_turn nodes (passed before node)) = length-append (node.groups before) (groups_in_turn nodes (passed before node)) in
      omega (arith, one, all)

  block-counted : (conds : List Cond) (nodes : List Node) (counts : List ℕ) → CountedEach nodes counts → leaves_fit (length nodes) conds ≡ true → Counted (block_node tables levels conds nodes) (suc (sum counts))
  block-counted conds nodes counts each fits =
      let turn = in-turn nodes counts each in
      let few = few-leaves (length nodes) conds fits in
      let fit = λ (before : Before). subst (λ n. n ≤ 10) (sym (leaf-count nodes before)) few in
      let all = λ (before : Before). length-append (groups_in_turn nodes before) (own_block_groups tables levels conds nodes before) in
      record {
        some = λ before. let these = all before in let one = some-first nodes counts each before (some-leaf (length nodes) conds fits) in omega (arith, these, one);
        most = λ before.
            let these = all before in
            let one = turn.most before in
            let after = passed_all before nodes in
            let own = own-most after.blocks (levels after.blocks) conds (block_leaves tables levels nodes before) after.groups (fit before) in
            omega (arith, these, one, own);
        few = λ before.
            let after = passed_all before nodes in
            all-append IsFew (groups_in_turn nodes before) (own_block_groups tables levels conds nodes before) (turn.few before)
            (own-few after.blocks (levels after.blocks) conds (block_leaves tables levels nodes before) after.groups (fit before));
        parts = λ before. length-append (parts_in_turn nodes before) (_ ∷ []) ∙ ap (λ n. n + 1) (turn.parts before);
        blocks = let one = turn.blocks in omega (arith, one);
        operators = let one = turn.operators in omega (arith, one);
      }

  -- ---- any tree

  abbrev steps : Tree → Node
  steps = node_of tables levels

  abbrev TreeCounted : Tree → Type 0
  TreeCounted t = (shape_of tables t).sound ≡ true → Counted (steps t) (node_count t)

  pub each-counted : (leaves : List Tree) → AllByRecursion TreeCounted leaves → list_all (λ leaf. leaf.sound) (map (shape_of tables) leaves) ≡ true → CountedEach (map steps leaves) (map node_count leaves)
  each-counted [] all sound = tt
  each-counted (leaf ∷ leaves) all sound =
      let parts = and_parts (shape_of tables leaf).sound (list_all (λ (leaf : Shape). leaf.sound) (map (shape_of tables) leaves)) sound in
      (all.0 parts.0, each-counted leaves all.1 parts.1)

  from_layer : (t : Tree) (node : Node) (count : ℕ) → steps t ≡ node → node_count t ≡ count → Counted node count → Counted (steps t) (node_count t)
  from_layer t node count is_node is_count holds = subst (λ n. Counted n (node_count t)) (sym is_node) (subst (Counted node) (sym is_count) holds)

  cases : Inductive TreeCounted
  cases = record {
    scan = λ table alias cols sound.
        from_layer (tree.Scan table alias cols) _ _ (fold-scan (node_step tables levels) table alias cols) (fold-scan count_step table alias cols)
        (operator-counted tables levels _ _ [] [] _ tt refl);
    filter = λ conds child holds sound.
        from_layer (tree.Filter conds child) _ _ (fold-filter (node_step tables levels) conds child) (fold-filter count_step conds child)
        (operator-counted tables levels _ _ (steps child ∷ []) (node_count child ∷ []) _ (holds (filter-child tables conds child sound), tt) (ap suc (sym (one-sum (node_count child)))));
    project = λ items child holds sound.
        from_layer (tree.Project items child) _ _ (fold-project (node_step tables levels) items child) (fold-project count_step items child)
        (operator-counted tables levels _ _ (steps child ∷ []) (node_count child ∷ []) _ (holds (project-child tables items child sound), tt) (ap suc (sym (one-sum (node_count child)))));
    block = λ leaves conds all sound.
        let parts = block-parts tables leaves conds sound in
        from_layer (tree.Block leaves conds) _ _ (fold-block (node_step tables levels) leaves conds) (fold-block count_step leaves conds)
        (block-counted conds (map steps leaves) (map node_count leaves) (each-counted leaves all parts.0) (ap (λ n. leaves_fit n conds) (length-map leaves steps) ∙ parts.1));
    join = λ kind conds left right first second sound.
        let parts = join-children tables kind conds left right sound in
        from_layer (tree.Join kind conds left right) _ _ (fold-join (node_step tables levels) kind conds left right) (fold-join count_step kind conds left right)
        (operator-counted tables levels _ _ (steps left ∷ steps right ∷ []) (node_count left ∷ node_count right ∷ []) _ (first parts.0, (second parts.1, tt)) (ap suc (sym (two-sum (node_count left) (node_count right)))));
    group = λ keys aggs child holds sound.
        from_layer (tree.GroupBy keys aggs child) _ _ (fold-group (node_step tables levels) keys aggs child) (fold-group count_step keys aggs child)
        (grouping-counted tables levels keys aggs (steps child) (node_count child) (holds (group-child tables keys aggs child sound)));
  }

  pub tree-counted : (t : Tree) → TreeCounted t
  tree-counted = by_trees TreeCounted cases

  all-trees : (leaves : List Tree) → AllByRecursion TreeCounted leaves
  all-trees [] = tt
  all-trees (leaf ∷ leaves) = (tree-counted leaf, all-trees leaves)

  pub leaves-counted : (leaves : List Tree) → list_all (λ leaf. leaf.sound) (map (shape_of tables) leaves) ≡ true → CountedEach (map steps leaves) (map node_count leaves)
  leaves-counted leaves sound = each-counted leaves (all-trees leaves) sound
