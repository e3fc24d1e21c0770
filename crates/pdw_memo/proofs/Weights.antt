-- How heavy trees are, and the groups of a block: each expression weighs one more than its children together, and at most its group.
use Rattle.std.proofs.Common.{◌≡◌, ℕ, suc, ◌+◌, ◌-◌, ◌^◌, ◌<◌, ◌≤◌, ◌&&◌, ◌||◌, Bool, true, false, true≢false, List, [], ◌∷◌, length, map, filter, count_ones, refl, ap, ◌∙◌, arith, leb-true, if◌then◌else◌, inl, inr}
use Rattle.std.specs.Int.Bits.{bit_xor}
use Rattle.std.specs.List.{AllByRecursion}
use Rattle.std.proofs.lemmas.Bool.{and_parts}
use Rattle.pdw_algebra.proofs.AllLaws.{all-append}
use Rattle.pdw_algebra.proofs.TreeFolds.{fold-block}
use Rattle.pdw_algebra.specs.declared.tree.Tree.{Tree}
use Rattle.pdw_algebra.specs.declared.tree.Tree.TheOpen.{Tree-F}
use Rattle.pdw_algebra.specs.declared.tree.Tree.TheFolds.{fold-Tree}
use Rattle.pdw_algebra.specs.declared.tree.Tree.TheVariants as tree
use Rattle.pdw_base.specs.SameBag.{weigh}
use Rattle.pdw_expr.specs.declared.cond.Cond.{Cond}
use Rattle.pdw_groups.proofs.CountLaws.{IsPresent, chosen-count, sides}
use Rattle.pdw_groups.proofs.PartOrder.{below-less}
use Rattle.pdw_groups.proofs.SetLaws.{left-inside, parts-disjoint, parts-together}
use Rattle.pdw_groups.specs.Block.{BlockLeaf, block_groups, columns_of_leaves, inside_leaf, join_of, one_or, part_of, part_tree, second_group, second_groups, seconds, set_group, set_number, single_part, single_parts}
use Rattle.pdw_groups.specs.Group.{Child, ExprOf, GroupOf}
use Rattle.pdw_groups.specs.Level.{below, has_set, is_left, is_one, is_several, set_of}
use Rattle.pdw_groups.specs.Meaning.{Meaning, exactly, partial_of}
use Rattle.pdw_groups.specs.declared.block.Level.{Level}
use Rattle.pdw_groups.specs.declared.block.Level.TheVariants as level
use Rattle.pdw_memo.proofs.Counts.{filter-all, map-all}
use Rattle.pdw_memo.proofs.EachGroup.{each-join}
use Rattle.pdw_parts.proofs.PartLaws.{chosen-map}
use Rattle.pdw_parts.specs.Part.{AreDisjoint, LeafSet, chosen, either, inside}

-- ---- weights

-- a grouping is first one of partial rows; a block filters each of its leaves, and joins them by one join less than leaves
abbrev pub weight_step : Tree-F ℕ → ℕ
weight_step (Tree-F.Scan table alias cols) = 1
weight_step (Tree-F.Filter conds child) = suc child
weight_step (Tree-F.Project items child) = suc child
weight_step (Tree-F.Block leaves conds) = weigh (λ leaf. leaf + 2) leaves - 1
weight_step (Tree-F.Join kind conds left right) = suc (left + right)
weight_step (Tree-F.GroupBy keys aggs child) = child + 2

abbrev pub tree_weight : Tree → ℕ
tree_weight = fold-Tree ℕ weight_step

abbrev pub meaning_weight : Meaning → ℕ
meaning_weight (exactly t) = tree_weight t
meaning_weight (partial_of keys aggs t) = suc (tree_weight t)

abbrev pub child_weight : Child → ℕ
child_weight child = meaning_weight child.means

-- a group weighs at most so much, and each of its expressions weighs one more than its children together, and at most the group
pub record LightTo (most : ℕ) (group : GroupOf) : Type 0 where
  pub few : meaning_weight group.means ≤ most
  pub each : AllByRecursion (λ expr. suc (weigh child_weight expr.children) ≤ meaning_weight group.means) group.exprs

-- ---- sums of weights

weigh-map : {X Y : Type 0} (f : Y → ℕ) (g : X → Y) (xs : List X) → weigh f (map g xs) ≡ weigh (λ x. f (g x)) xs
weigh-map f g [] = refl
weigh-map f g (x ∷ xs) = ap (λ n. f (g x) + n) (weigh-map f g xs)

-- each item weighs at most what all do together
pub each-under : {X : Type 0} (f : X → ℕ) (xs : List X) (most : ℕ) → weigh f xs ≤ most → AllByRecursion (λ x. f x ≤ most) xs
each-under f [] most le = tt
each-under f (x ∷ xs) most le = (omega (arith, le), each-under f xs most (omega (arith, le)))

-- and so do the items of a set
chosen-under : {X : Type 0} (f : X → ℕ) (set : LeafSet) (xs : List X) → weigh f (chosen set xs) ≤ weigh f xs
chosen-under f set [] = omega arith
chosen-under {X = X} f set (x ∷ xs) = by (set 0) (chosen (λ i. set (suc i)) xs) (chosen-under f (λ i. set (suc i)) xs)
  where
    by : (b : Bool) (rest : List X) → weigh f rest ≤ weigh f xs → weigh f (if b then x ∷ rest else rest) ≤ f x + weigh f xs
    by true rest le = omega (arith, le)
    by false rest le = omega (arith, le)

-- two sets that have no item in common weigh what both together do
chosen-both : {X : Type 0} (f : X → ℕ) (left right : LeafSet) (xs : List X) → AreDisjoint left right → weigh f (chosen left xs) + weigh f (chosen right xs) ≡ weigh f (chosen (either left right) xs)
chosen-both f left right [] disjoint = refl
chosen-both {X = X} f left right (x ∷ xs) disjoint =
    by (left 0) (right 0) (chosen (λ i. left (suc i)) xs) (chosen (λ i. right (suc i)) xs) (chosen (λ i. left (suc i) || right (suc i)) xs) (disjoint 0)
    (chosen-both f (λ i. left (suc i)) (λ i. right (suc i)) xs (λ i. disjoint (suc i)))
  where
    by : (a b : Bool) (ls rs both : List X) → (a && b) ≡ false → weigh f ls + weigh f rs ≡ weigh f both
        → weigh f (if a then x ∷ ls else ls) + weigh f (if b then x ∷ rs else rs) ≡ weigh f (if a || b then x ∷ both else both)
    by true true ls rs both apart sum = absurd (true≢false apart)
    by true false ls rs both apart sum = omega (arith, sum)
    by false true ls rs both apart sum = omega (arith, sum)
    by false false ls rs both apart sum = sum

-- ---- leaves of blocks

-- a leaf with its filter, and with the join that adds it to others
abbrev pub leaf_weight : BlockLeaf → ℕ
leaf_weight leaf = tree_weight leaf.tree + 2

abbrev set_weight : List BlockLeaf → ℕ → ℕ
set_weight leaves mask = weigh leaf_weight (chosen (set_of mask) leaves)

pub block-weight : (trees : List Tree) (conds : List Cond) → tree_weight (tree.Block trees conds) ≡ weigh (λ t. tree_weight t + 2) trees - 1
block-weight trees conds = fold-block weight_step trees conds ∙ ap (λ n. n - 1) (weigh-map (λ w. w + 2) tree_weight trees)

-- a level has sets of two or more leaves alone
pub set-several : (l : Level) (mask : ℕ) → has_set l mask ≡ true → 2 ≤ count_ones mask
set-several level.Full mask has = leb-true 2 (count_ones mask) has
set-several level.Linear mask has = leb-true 2 (count_ones mask) has
set-several level.Written mask has = leb-true 2 (count_ones mask) (and_parts (is_several mask) (is_one (mask + 1)) has).0

count-under : (leaves : List BlockLeaf) → length leaves ≤ weigh leaf_weight leaves
count-under [] = omega arith
count-under (leaf ∷ leaves) = let rest = count-under leaves in omega (arith, rest)

-- a part of leaves weighs something
part-some : (l : Level) (leaves : List BlockLeaf) (mask : ℕ) → mask < 2 ^ length leaves → IsPresent l mask → 1 ≤ set_weight leaves mask
part-some l leaves mask inside present =
    let count = chosen-count leaves mask inside in
    let under = count-under (chosen (set_of mask) leaves) in
    let some = by present in
    omega (arith, count, under, some)
  where
    by : IsPresent l mask → 1 ≤ count_ones mask
    by (inl one) = omega (arith, one)
    by (inr has) = let several = set-several l mask has in omega (arith, several)

single-weight : (next : ℕ) (leaf : BlockLeaf) (some : List Cond) → child_weight (single_part next leaf some) ≤ tree_weight leaf.tree + 1
single-weight next leaf [] = omega arith
single-weight next leaf (first ∷ rest) = let one = block-weight (leaf.tree ∷ []) (first ∷ rest) in omega (arith, one)

module _ (block : ℕ) (conds : List Cond) where
  -- parts of one leaf each, and the leaves of a set
  singles-weight : (set : LeafSet) (next : ℕ) (leaves : List BlockLeaf) → weigh (λ child. child_weight child + 1) (chosen set (single_parts block conds next leaves)) ≤ weigh leaf_weight (chosen set leaves)
  singles-weight set next [] = omega arith
  singles-weight set next (leaf ∷ leaves) =
      let after = next + length (second_group block 0 leaf (inside_leaf block conds leaf)) in
      by (set 0) (single_part next leaf (inside_leaf block conds leaf)) (chosen (λ i. set (suc i)) (single_parts block conds after leaves)) (chosen (λ i. set (suc i)) leaves)
      (single-weight next leaf (inside_leaf block conds leaf)) (singles-weight (λ i. set (suc i)) after leaves)
    where
      by : (b : Bool) (single : Child) (parts : List Child) (rest : List BlockLeaf) → child_weight single ≤ tree_weight leaf.tree + 1
          → weigh (λ child. child_weight child + 1) parts ≤ weigh leaf_weight rest
          → weigh (λ child. child_weight child + 1) (if b then single ∷ parts else parts) ≤ weigh leaf_weight (if b then leaf ∷ rest else rest)
      by true single parts rest one all = omega (arith, one, all)
      by false single parts rest one all = all

  -- ---- second groups

  second-light : (most place : ℕ) (leaf : BlockLeaf) (some : List Cond) → leaf_weight leaf ≤ suc most → AllByRecursion (LightTo most) (second_group block place leaf some)
  second-light most place leaf [] le = tt
  second-light most place leaf (first ∷ rest) le =
      let one = block-weight (leaf.tree ∷ []) (first ∷ rest) in
      (record { few = omega (arith, one, le); each = (omega (arith, one), tt) }, tt)

  seconds-light : (most place : ℕ) (leaves : List BlockLeaf) → AllByRecursion (λ leaf. leaf_weight leaf ≤ suc most) leaves → AllByRecursion (LightTo most) (second_groups block conds place leaves)
  seconds-light most place [] all = tt
  seconds-light most place (leaf ∷ leaves) all =
      all-append (LightTo most) (second_group block place leaf (inside_leaf block conds leaf)) (second_groups block conds (suc place) leaves) (second-light most place leaf (inside_leaf block conds leaf) all.0)
      (seconds-light most (suc place) leaves all.1)

  -- ---- sets of leaves

  module _ (l : Level) (leaves : List BlockLeaf) (first : ℕ) where
    tree-weight : (mask : ℕ) → tree_weight (part_tree block l conds leaves first (set_of mask)) ≡ set_weight leaves mask - 1
    tree-weight mask =
        block-weight (chosen (set_of mask) (map (λ leaf. leaf.tree) leaves)) (inside (set_of mask) (columns_of_leaves block l conds leaves first) conds)
        ∙ ap (λ trees. weigh (λ t. tree_weight t + 2) trees - 1) (chosen-map (λ (leaf : BlockLeaf). leaf.tree) (set_of mask) leaves)
        ∙ ap (λ n. n - 1) (weigh-map (λ t. tree_weight t + 2) (λ (leaf : BlockLeaf). leaf.tree) (chosen (set_of mask) leaves))

    part-weight : (mask : ℕ) → child_weight (part_of block l conds leaves first mask) ≤ set_weight leaves mask - 1
    part-weight mask = by (chosen (set_of mask) (single_parts block conds first leaves)) (singles-weight (set_of mask) first leaves)
      where
        several : Child
        several = record { number = set_number block l conds leaves first mask; means = exactly (part_tree block l conds leaves first (set_of mask)) }

        many : child_weight several ≤ set_weight leaves mask - 1
        many = let same = tree-weight mask in omega (arith, same)

        by : (some : List Child) → weigh (λ child. child_weight child + 1) some ≤ set_weight leaves mask → child_weight (one_or some several) ≤ set_weight leaves mask - 1
        by [] le = many
        by (single ∷ []) le = omega (arith, le)
        by (single ∷ second ∷ rest) le = many

    join-light : (mask left : ℕ) → mask < 2 ^ length leaves → left < mask → is_left l mask left ≡ true
        → suc (weigh child_weight (join_of block l conds leaves first mask left).children) ≤ tree_weight (part_tree block l conds leaves first (set_of mask))
    join-light mask left within less is =
        let both = sides l mask left less is in
        let below_left = both.left_less in
        let below_right = both.right_less in
        let left_some = part-some l leaves left (omega (arith, within, below_left)) both.left_present in
        let right_some = part-some l leaves (bit_xor left mask) (omega (arith, within, below_right)) both.right_present in
        let left_most = part-weight left in
        let right_most = part-weight (bit_xor left mask) in
        let inside_set = left-inside l mask left is in
        let sum : set_weight leaves left + set_weight leaves (bit_xor left mask) ≡ set_weight leaves mask =
        chosen-both leaf_weight (set_of left) (set_of (bit_xor left mask)) leaves (parts-disjoint mask left inside_set)
        ∙ ap (λ (set : LeafSet). weigh leaf_weight (chosen set leaves)) (parts-together mask left inside_set) in
        let whole = tree-weight mask in
        omega (arith, left_some, right_some, left_most, right_most, sum, whole)

    abbrev most_weight : ℕ
    most_weight = weigh leaf_weight leaves - 1

    set-light : (mask : ℕ) → mask < 2 ^ length leaves → LightTo most_weight (set_group block l conds leaves first mask)
    set-light mask within = record {
      few = let whole = tree-weight mask in let under = chosen-under leaf_weight (set_of mask) leaves in omega (arith, whole, under);
      each = each-join (λ (expr : ExprOf). suc (weigh child_weight expr.children) ≤ tree_weight (part_tree block l conds leaves first (set_of mask))) block l conds leaves first mask
          (λ left less is. join-light mask left within less is);
    }

    pub block-light : AllByRecursion (LightTo (weigh leaf_weight leaves - 1)) (block_groups block l conds leaves first)
    block-light =
        all-append (LightTo most_weight) (seconds block l conds leaves first) (map (set_group block l conds leaves first) (filter (has_set l) (below (2 ^ length leaves))))
        (seconds-light most_weight 0 leaves (each-under leaf_weight leaves (suc most_weight) (omega arith)))
        (map-all (λ mask. mask < 2 ^ length leaves) (LightTo most_weight) (set_group block l conds leaves first) set-light (filter (has_set l) (below (2 ^ length leaves)))
        (filter-all (λ mask. mask < 2 ^ length leaves) (has_set l) (below (2 ^ length leaves)) (below-less (2 ^ length leaves) (2 ^ length leaves) (omega arith))))
