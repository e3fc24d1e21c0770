-- The expressions of a block's groups are well-typed: filters of leaves, and joins of parts.
use Rattle.std.proofs.Common.{◌≡◌, ℕ, suc, ◌+◌, ◌^◌, true, List, [], ◌∷◌, ◌++◌, length, map, filter, refl, sym, ap, ap₂, ◌∙◌, append-nil}
use Rattle.std.specs.Int.Bits.{bit_xor}
use Rattle.std.specs.List.{AllByRecursion, flat_map}
use Rattle.std.proofs.lemmas.List.Folds.{flat_map-map}
use Rattle.pdw_algebra.proofs.AllLaws.{all-append}
use Rattle.pdw_algebra.proofs.PartLemmas.{columns-block}
use Rattle.pdw_algebra.specs.Schema.{rising}
use Rattle.pdw_algebra.specs.Shape.{all_apart, columns_of}
use Rattle.pdw_algebra.specs.declared.tree.Tree.{Tree}
use Rattle.pdw_base.specs.Schema.{Columns}
use Rattle.pdw_catalog.specs.Catalog.{Tables}
use Rattle.pdw_dsql.proofs.ExprTypes.{Types}
use Rattle.pdw_dsql.proofs.SameKinds.{rising-again}
use Rattle.pdw_dsql.proofs.UnionColumns.{union-schema}
use Rattle.pdw_expr.specs.declared.cond.Cond.{Cond}
use Rattle.pdw_groups.proofs.SetLaws.{left-inside, parts-disjoint, parts-together}
use Rattle.pdw_groups.specs.Block.{BlockLeaf, block_groups, columns_of_leaves, inside_leaf, join_of, one_or, part_of, part_tree, second_group, second_groups, seconds, set_group, set_number, single_part, single_parts}
use Rattle.pdw_groups.specs.Group.{Child, ExprOf, GroupOf}
use Rattle.pdw_groups.specs.Level.{below, has_set, is_left, set_of}
use Rattle.pdw_groups.specs.Meaning.{exactly}
use Rattle.pdw_groups.specs.declared.block.Level.{Level}
use Rattle.pdw_memo.proofs.EachGroup.{each-join}
use Rattle.pdw_memo.proofs.MemoRows.{IsRisen, columns_by}
use Rattle.pdw_memo.proofs.RisingLaws.{rising-all}
use Rattle.pdw_parts.proofs.PartLaws.{chosen-map}
use Rattle.pdw_parts.specs.Part.{LeafSet, chosen, columns_in, inside}

module _ (tables : Tables) where
  -- the schema of the group that a child is
  abbrev pub child_schema : Child → Columns
  child_schema child = rising (columns_by tables child.means)

  abbrev pub ExprTyped : Columns → ExprOf → Type 0
  ExprTyped schema expr = Types tables schema expr.operator (map child_schema expr.children)

  abbrev pub GroupTyped : GroupOf → Type 0
  GroupTyped group = AllByRecursion (ExprTyped group.schema) group.exprs

  -- ---- leaves with conjuncts

  second-typed : (block place : ℕ) (leaf : BlockLeaf) (some : List Cond) → IsRisen tables leaf → AllByRecursion GroupTyped (second_group block place leaf some)
  second-typed block place leaf [] risen = tt
  second-typed block place leaf (first ∷ rest) risen = ((sym risen, tt), tt)

  seconds-typed : (block : ℕ) (conds : List Cond) (place : ℕ) (leaves : List BlockLeaf) → AllByRecursion (IsRisen tables) leaves → AllByRecursion GroupTyped (second_groups block conds place leaves)
  seconds-typed block conds place [] all = tt
  seconds-typed block conds place (leaf ∷ leaves) all =
      all-append GroupTyped (second_group block place leaf (inside_leaf block conds leaf)) (second_groups block conds (suc place) leaves) (second-typed block place leaf (inside_leaf block conds leaf) all.0)
      (seconds-typed block conds (suc place) leaves all.1)

  -- ---- parts

  single-schema : (next : ℕ) (leaf : BlockLeaf) (some : List Cond) → IsRisen tables leaf → child_schema (single_part next leaf some) ≡ leaf.columns
  single-schema next leaf [] risen = sym risen
  single-schema next leaf (first ∷ rest) risen = ap rising (columns-block tables (leaf.tree ∷ []) (first ∷ rest) ∙ append-nil (columns_of tables leaf.tree)) ∙ sym risen

  singles-schemas : (block : ℕ) (conds : List Cond) (next : ℕ) (leaves : List BlockLeaf) → AllByRecursion (IsRisen tables) leaves
      → map child_schema (single_parts block conds next leaves) ≡ map (λ (leaf : BlockLeaf). leaf.columns) leaves
  singles-schemas block conds next [] all = refl
  singles-schemas block conds next (leaf ∷ leaves) all =
      ap₂ (λ first rest. first ∷ rest) (single-schema next leaf (inside_leaf block conds leaf) all.0)
      (singles-schemas block conds (next + length (second_group block 0 leaf (inside_leaf block conds leaf))) leaves all.1)

  risen-columns : (leaves : List BlockLeaf) → AllByRecursion (IsRisen tables) leaves → map (λ (leaf : BlockLeaf). leaf.columns) leaves ≡ map rising (map (columns_of tables) (map (λ (leaf : BlockLeaf). leaf.tree) leaves))
  risen-columns [] all = refl
  risen-columns (leaf ∷ leaves) all = (λ i. all.0 i ∷ risen-columns leaves all.1 i)

  module _ (block : ℕ) (level : Level) (conds : List Cond) (leaves : List BlockLeaf) (first : ℕ) (all : AllByRecursion (IsRisen tables) leaves) where
    abbrev columns : List Columns
    columns = columns_of_leaves block level conds leaves first

    abbrev trees : List Tree
    trees = map (λ (leaf : BlockLeaf). leaf.tree) leaves

    -- a part of several leaves has the schema of their columns
    several-schema : (set : LeafSet) → rising (columns_of tables (part_tree block level conds leaves first set)) ≡ rising (columns_in set columns)
    several-schema set =
        ap rising (columns-block tables (chosen set trees) (inside set columns conds) ∙ sym (flat_map-map (λ columns. columns) (columns_of tables) (chosen set trees)))
        ∙ sym (rising-all (map (columns_of tables) (chosen set trees)))
        ∙ ap (λ some. rising (flat_map (λ columns. columns) some))
        (sym (ap (chosen set) (risen-columns leaves all) ∙ chosen-map rising set (map (columns_of tables) trees) ∙ ap (map rising) (chosen-map (columns_of tables) set trees)))

    part-schema : (mask : ℕ) → child_schema (part_of block level conds leaves first mask) ≡ rising (columns_in (set_of mask) columns)
    part-schema mask = by (chosen (set_of mask) (single_parts block conds first leaves)) refl
      where
        several : rising (columns_of tables (part_tree block level conds leaves first (set_of mask))) ≡ rising (columns_in (set_of mask) columns)
        several = several-schema (set_of mask)

        by : (some : List Child) → chosen (set_of mask) (single_parts block conds first leaves) ≡ some
            → child_schema (one_or some (record { number = set_number block level conds leaves first mask; means = exactly (part_tree block level conds leaves first (set_of mask)) })) ≡ rising (columns_in (set_of mask) columns)
        by [] is = several
        by (single ∷ []) is =
            let chosen_columns : chosen (set_of mask) columns ≡ child_schema single ∷ [] =
            ap (chosen (set_of mask)) (sym (singles-schemas block conds first leaves all)) ∙ chosen-map child_schema (set_of mask) (single_parts block conds first leaves) ∙ ap (map child_schema) is in
            sym (ap (λ some. rising (flat_map (λ columns. columns) some)) chosen_columns ∙ ap rising (append-nil (child_schema single)) ∙ rising-again (columns_by tables single.means))
        by (single ∷ second ∷ rest) is = several

    -- a left part and what is left of a set make the set's schema
    join-typed : all_apart columns ≡ true → (mask left : ℕ) → is_left level mask left ≡ true → ExprTyped (rising (columns_in (set_of mask) columns)) (join_of block level conds leaves first mask left)
    join-typed apart mask left is =
        let inside = left-inside level mask left is in
        let right = bit_xor left mask in
        ap₂ (λ l r. rising (l ++ r)) (part-schema left) (part-schema right)
        ∙ union-schema columns apart (set_of left) (set_of right) (parts-disjoint mask left inside)
        ∙ ap (λ set. rising (columns_in set columns)) (parts-together mask left inside)

    sets-typed : all_apart columns ≡ true → (masks : List ℕ) → AllByRecursion GroupTyped (map (set_group block level conds leaves first) masks)
    sets-typed apart [] = tt
    sets-typed apart (mask ∷ masks) = (
      each-join (ExprTyped (rising (columns_in (set_of mask) columns))) block level conds leaves first mask (λ left less is. join-typed apart mask left is),
      sets-typed apart masks,
    )

    pub block-typed : all_apart columns ≡ true → AllByRecursion GroupTyped (block_groups block level conds leaves first)
    block-typed apart =
        all-append GroupTyped (seconds block level conds leaves first) (map (set_group block level conds leaves first) (filter (has_set level) (below (2 ^ length leaves)))) (seconds-typed block conds 0 leaves all)
        (sets-typed apart (filter (has_set level) (below (2 ^ length leaves))))
