-- The last group of a block means the block.
use Rattle.std.proofs.Common.{◌≡◌, ℕ, zero, suc, ◌+◌, ◌-◌, ◌^◌, ◌≤◌, ◌==◌, ◌&&◌, leb, Bool, true, false, not, cond, List, [], ◌∷◌, ◌++◌, length, map, filter, refl, sym, ap, ap₂, ◌∙◌, arith, length-append, append-nil, true≢false, inl, inr}
use Rattle.std.specs.List.{flat_map, list_all}
use Rattle.std.proofs.lemmas.Bool.{and_parts, leb-true}
use Rattle.std.proofs.lemmas.List.{length-map}
use Rattle.std.proofs.lemmas.List.Elements.{filter-append}
use Rattle.std.proofs.Math.Pow.{suc_ones}
use Rattle.pdw_algebra.specs.Shape.{is_empty, leaves_fit}
use Rattle.pdw_algebra.specs.declared.tree.Tree.TheVariants as tree
use Rattle.pdw_algebra.specs.declared.tree.TheConstants.{MOST_LEAVES}
use Rattle.pdw_base.specs.Schema.{Columns}
use Rattle.pdw_expr.specs.declared.cond.Cond.{Cond}
use Rattle.pdw_groups.proofs.CountLaws.{IsPresent, chosen-whole, has-whole, whole-set}
use Rattle.pdw_groups.specs.Block.{BlockLeaf, block_groups, inside_leaf, one_or, part_of, part_tree, second_group, seconds, set_group, set_number, single_part, single_parts}
use Rattle.pdw_groups.specs.Group.{Child}
use Rattle.pdw_groups.specs.Level.{below, has_set, set_of}
use Rattle.pdw_groups.specs.Meaning.{exactly}
use Rattle.pdw_groups.specs.declared.block.Level.{Level}
use Rattle.pdw_groups.specs.declared.block.Level.TheVariants as level
use Rattle.pdw_parts.specs.Part.{chosen, is_inside}
use lib.Count.{ones}

pub filter-all_pass : {X : Type 0} (test : X → Bool) (xs : List X) → list_all test xs ≡ true → filter test xs ≡ xs
filter-all_pass test [] all = refl
filter-all_pass test (x ∷ xs) all =
    let parts = and_parts (test x) (list_all test xs) all in
    ap (λ b. cond b (x ∷ filter test xs) (filter test xs)) parts.0 ∙ ap (λ rest. x ∷ rest) (filter-all_pass test xs parts.1)

-- every conjunct lies inside all leaves together
abbrev pub AllInside : List Columns → List Cond → Type 0
AllInside columns conds = list_all (is_inside (flat_map (λ columns. columns) columns)) conds ≡ true

-- the child that names the last group of a block
abbrev pub last_child : ℕ → Level → List Cond → List BlockLeaf → ℕ → Child
last_child block level conds leaves first = record {
  number = (first + length (block_groups block level conds leaves first)) - 1;
  means = exactly (tree.Block (map (λ leaf. leaf.tree) leaves) conds);
}

module _ (block : ℕ) (l : Level) (conds : List Cond) (first : ℕ) where
  -- ---- one leaf, which has a conjunct

  pub none-kept : filter (has_set l) (below (2 ^ 1)) ≡ []
  unfolding ones
  none-kept = by l
    where
      by : (l : Level) → filter (has_set l) (below 2) ≡ []
      by level.Full = refl
      by level.Linear = refl
      by level.Written = refl

  module _ (leaf : BlockLeaf) (all : AllInside (leaf.columns ∷ []) conds) (some : is_empty conds ≡ false) where
    pub all-inside_leaf : inside_leaf block conds leaf ≡ conds
    all-inside_leaf = filter-all_pass (is_inside leaf.columns) conds (ap (λ columns. list_all (is_inside columns) conds) (sym (append-nil leaf.columns)) ∙ all)

    one-part : one_or (chosen (set_of (2 ^ 1 - 1)) (single_parts block conds first (leaf ∷ []))) (record { number = set_number block l conds (leaf ∷ []) first 1; means = exactly (part_tree block l conds (leaf ∷ []) first (set_of 1)) })
        ≡ single_part first leaf conds
    one-part = ap (single_part first leaf) all-inside_leaf

    one-groups : length (block_groups block l conds (leaf ∷ []) first) ≡ length (second_group block 0 leaf conds)
    one-groups =
        length-append (second_group block 0 leaf (inside_leaf block conds leaf) ++ []) (map (set_group block l conds (leaf ∷ []) first) (filter (has_set l) (below (2 ^ 1))))
        ∙ ap₂ (λ a b. length a + length (map (set_group block l conds (leaf ∷ []) first) b)) (append-nil (second_group block 0 leaf (inside_leaf block conds leaf)) ∙ ap (second_group block 0 leaf) all-inside_leaf) none-kept
        ∙ omega arith

    one-whole : part_of block l conds (leaf ∷ []) first (2 ^ 1 - 1) ≡ last_child block l conds (leaf ∷ []) first
    one-whole = one-part ∙ by conds some ∙ ap (λ n. record { number = (first + n) - 1; means = exactly (tree.Block (leaf.tree ∷ []) conds) }) (sym one-groups)
      where
        by : (some : List Cond) → is_empty some ≡ false → single_part first leaf some ≡ record { number = (first + length (second_group block 0 leaf some)) - 1; means = exactly (tree.Block (leaf.tree ∷ []) some) }
        by [] none = absurd (true≢false none)
        by (c ∷ rest) more = let same : first ≡ (first + 1) - 1 = omega arith in ap (λ n. record { number = n; means = exactly (tree.Block (leaf.tree ∷ []) (c ∷ rest)) }) same

  -- ---- several leaves

  module _ (leaves : List BlockLeaf) (all : AllInside (map (λ leaf. leaf.columns) leaves) conds) (many : 2 ≤ length leaves) where
    abbrev whole : ℕ
    whole = 2 ^ length leaves - 1

    whole-at : {X : Type 0} (xs : List X) → length xs ≡ length leaves → chosen (set_of whole) xs ≡ xs
    whole-at xs same = chosen-whole xs (set_of whole) (λ i within. whole-set (length leaves) i (omega (arith, within, same)))

    singles-length : (conds : List Cond) (next : ℕ) (leaves : List BlockLeaf) → length (single_parts block conds next leaves) ≡ length leaves
    singles-length conds next [] = refl
    singles-length conds next (leaf ∷ leaves) = ap suc (singles-length conds (next + length (second_group block 0 leaf (inside_leaf block conds leaf))) leaves)

    not-one : (some : List Child) (other : Child) → 2 ≤ length some → one_or some other ≡ other
    not-one [] other several = refl
    not-one (x ∷ []) other several = absurd (omega (arith, several))
    not-one (x ∷ y ∷ rest) other several = refl

    tree-whole : part_tree block l conds leaves first (set_of whole) ≡ tree.Block (map (λ leaf. leaf.tree) leaves) conds
    tree-whole =
        ap₂ tree.Block (whole-at (map (λ leaf. leaf.tree) leaves) (length-map leaves (λ leaf. leaf.tree)))
        (ap (λ some. filter (is_inside (flat_map (λ columns. columns) some)) conds) (whole-at (map (λ leaf. leaf.columns) leaves) (length-map leaves (λ leaf. leaf.columns)))
        ∙ filter-all_pass (is_inside (flat_map (λ columns. columns) (map (λ leaf. leaf.columns) leaves))) conds all)

    kept-last : length (filter (has_set l) (below (2 ^ length leaves))) ≡ length (filter (has_set l) (below whole)) + 1
    kept-last =
        ap (λ n. length (filter (has_set l) (below n))) (sym (suc_ones (length leaves)))
        ∙ ap length (filter-append (has_set l) (below whole) (whole ∷ []))
        ∙ length-append (filter (has_set l) (below whole)) (filter (has_set l) (whole ∷ []))
        ∙ ap (λ b. length (filter (has_set l) (below whole)) + length (cond b (whole ∷ []) [])) (has-whole l (length leaves) many)

    groups-length : length (block_groups block l conds leaves first) ≡ (length (seconds block l conds leaves first) + length (filter (has_set l) (below whole))) + 1
    groups-length =
        length-append (seconds block l conds leaves first) (map (set_group block l conds leaves first) (filter (has_set l) (below (2 ^ length leaves))))
        ∙ ap (λ n. length (seconds block l conds leaves first) + n) (length-map (filter (has_set l) (below (2 ^ length leaves))) (set_group block l conds leaves first) ∙ kept-last)
        ∙ omega arith

    several-whole : part_of block l conds leaves first whole ≡ last_child block l conds leaves first
    several-whole =
        ap (λ some. one_or some (record { number = set_number block l conds leaves first whole; means = exactly (part_tree block l conds leaves first (set_of whole)) }))
        (whole-at (single_parts block conds first leaves) (singles-length conds first leaves))
        ∙ not-one (single_parts block conds first leaves) _ (omega (arith, many, singles-length conds first leaves))
        ∙ ap₂ (λ n t. record { number = n; means = exactly t })
        (let length_is = groups-length in omega (arith, length_is)) tree-whole

-- ---- any block

pub fitting : (count : ℕ) (conds : List Cond) → leaves_fit count conds ≡ true → (1 ≤ count) × (count ≡ 1 → is_empty conds ≡ false)
fitting count conds fits =
    let one = and_parts (leb 1 count) (leb count MOST_LEAVES && not ((count == 1) && is_empty conds)) fits in
    let two = and_parts (leb count MOST_LEAVES) (not ((count == 1) && is_empty conds)) one.1 in
    (leb-true 1 count one.0, λ is. not_true (is_empty conds) (ap (λ n. not ((n == 1) && is_empty conds)) (sym is) ∙ two.1))
  where
    not_true : (b : Bool) → not b ≡ true → b ≡ false
    not_true true is = absurd (true≢false (sym is))
    not_true false is = refl

pub whole-part : (block : ℕ) (l : Level) (conds : List Cond) (leaves : List BlockLeaf) (first : ℕ) → AllInside (map (λ leaf. leaf.columns) leaves) conds → leaves_fit (length leaves) conds ≡ true
    → part_of block l conds leaves first (2 ^ length leaves - 1) ≡ last_child block l conds leaves first
whole-part block l conds [] first all fits = absurd (true≢false (sym fits))
whole-part block l conds (leaf ∷ []) first all fits = one-whole block l conds first leaf all ((fitting 1 conds fits).1 refl)
whole-part block l conds (leaf ∷ second ∷ rest) first all fits = several-whole block l conds first (leaf ∷ second ∷ rest) all (omega arith)

pub whole-present : (l : Level) (count : ℕ) → 1 ≤ count → IsPresent l (2 ^ count - 1)
unfolding ones
whole-present l zero some = absurd (omega (arith, some))
whole-present l (suc zero) some = inl refl
whole-present l (suc (suc count)) some = inr (has-whole l (suc (suc count)) (omega arith))

pub some-leaf : (count : ℕ) (conds : List Cond) → leaves_fit count conds ≡ true → 1 ≤ count
some-leaf count conds fits = (fitting count conds fits).0
