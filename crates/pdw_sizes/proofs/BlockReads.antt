-- What the groups of a block mean is read from the block.
use Rattle.std.proofs.Common.{◌≡◌, ℕ, suc, ◌+◌, ◌^◌, ◌==◌, ◌≤◌, append-nil, Bool, true, false, true≢false, List, [], ◌∷◌, length, map, filter, Some, refl, sym, ap, subst, ◌∙◌, arith, eqb-true, eq-eqb, if◌then◌else◌}
use Rattle.std.specs.Int.{bit_at}
use Rattle.std.specs.List.{AllByRecursion, flat_map, list_all, slice_get}
use Rattle.std.proofs.lemmas.List.Folds.{flat_map-map}
use Rattle.std.proofs.lemmas.Nat.Bits.{bit_at-pow_other, bit_at-pow_same}
use Rattle.pdw_algebra.proofs.PartLemmas.{columns-block}
use Rattle.pdw_algebra.specs.Schema.{rising}
use Rattle.pdw_algebra.specs.Shape.{columns_of}
use Rattle.pdw_algebra.specs.declared.tree.Tree.{Tree}
use Rattle.pdw_algebra.specs.declared.tree.Tree.TheVariants as tree
use Rattle.pdw_base.specs.Schema.{Columns}
use Rattle.pdw_catalog.specs.Catalog.{Tables}
use Rattle.pdw_explore.proofs.SchemaLaws.{rising-all}
use Rattle.pdw_expr.specs.Columns.{cond_columns}
use Rattle.pdw_expr.specs.declared.cond.Cond.{Cond}
use Rattle.pdw_groups.proofs.SchemaLaws.{has_number-rising}
use Rattle.pdw_groups.specs.Block.{BlockLeaf, block_groups, inside_leaf, second_group, second_groups, seconds, set_group}
use Rattle.pdw_groups.specs.Group.{GroupOf, kept_expr}
use Rattle.pdw_groups.specs.Level.{below, has_set, set_of}
use Rattle.pdw_groups.specs.Meaning.{Meaning, exactly}
use Rattle.pdw_groups.specs.declared.block.BlockPart.{BlockPart}
use Rattle.pdw_groups.specs.declared.block.Level.{Level}
use Rattle.pdw_groups.specs.declared.key.GroupId.{GroupId}
use Rattle.pdw_parts.proofs.PartLaws.{chosen-map, chosen-only}
use Rattle.pdw_parts.specs.Part.{LeafSet, chosen, columns_in, inside, is_inside, only}
use Rattle.pdw_sizes.proofs.EachLaws.{Each, StandAt, each-append, stand-itself}
use Rattle.pdw_sizes.specs.Reading.{EachMeansTree, MeansTree, Reads}
use Rattle.pdw_sizes.specs.Sizes.{schema_of_meaning}

-- ---- one leaf as a set

other-place : (i p : ℕ) → (i == p) ≡ false → i ≡ p → ⊥
other-place i p differs same = true≢false (sym (eq-eqb i p same) ∙ differs)

pub set_of-one : (p : ℕ) → set_of (2 ^ p) ≡ only p
set_of-one p = λ k i. at i k
  where
    at : (i : ℕ) → (bit_at (2 ^ p) i == 1) ≡ (i == p)
    at i = by (i == p) refl
      where
        by : (b : Bool) → (i == p) ≡ b → (bit_at (2 ^ p) i == 1) ≡ b
        by true is = ap (λ n. n == 1) (subst (λ j. bit_at (2 ^ p) j ≡ 1) (sym (eqb-true i p is)) (bit_at-pow_same p))
        by false is = ap (λ n. n == 1) (bit_at-pow_other p i (other-place i p is))

-- ---- conjuncts inside

pub inside-rising : (columns : Columns) → is_inside (rising columns) ≡ is_inside columns
inside-rising columns = λ k conjunct. list_all (λ c. has_number-rising c columns k) (cond_columns conjunct)

-- ---- groups that mean trees

module _ (meanings : List Meaning) (number : ℕ) where
  pub each-chosen : (set : LeafSet) (ids : List GroupId) (trees : List Tree) → EachMeansTree meanings number ids trees → EachMeansTree meanings number (chosen set ids) (chosen set trees)
  each-chosen set [] [] all = tt
  each-chosen set [] (t ∷ trees) all = absurd all
  each-chosen set (id ∷ ids) [] all = absurd all
  each-chosen set (id ∷ ids) (t ∷ trees) all = by (set 0) (each-chosen (λ i. set (suc i)) ids trees all.1)
    where
      by : (b : Bool) → EachMeansTree meanings number (chosen (λ i. set (suc i)) ids) (chosen (λ i. set (suc i)) trees)
          → EachMeansTree meanings number (if b then id ∷ chosen (λ i. set (suc i)) ids else chosen (λ i. set (suc i)) ids) (if b then t ∷ chosen (λ i. set (suc i)) trees else chosen (λ i. set (suc i)) trees)
      by true rest = (all.0, rest)
      by false rest = rest

-- ---- a block

abbrev pub leaf_id : BlockLeaf → GroupId
leaf_id leaf = record { 0 = leaf.number }

abbrev pub leaf_tree : BlockLeaf → Tree
leaf_tree leaf = leaf.tree

-- a group's meaning is read, and has its schema
pub record GroupReads (tables : Tables) (meanings : List Meaning) (blocks : List BlockPart) (number : ℕ) (group : GroupOf) : Type 0 where
  pub reads : Reads meanings number blocks group.key group.schema (map kept_expr group.exprs) group.means
  pub schema : group.schema ≡ schema_of_meaning tables group.means

abbrev pub IsRisen : Tables → BlockLeaf → Type 0
IsRisen tables leaf = leaf.columns ≡ rising (columns_of tables leaf.tree)

risen-columns : (tables : Tables) (leaves : List BlockLeaf) → AllByRecursion (IsRisen tables) leaves → map (λ (leaf : BlockLeaf). leaf.columns) leaves ≡ map rising (map (columns_of tables) (map leaf_tree leaves))
risen-columns tables [] all = refl
risen-columns tables (leaf ∷ leaves) all = (λ i. all.0 i ∷ risen-columns tables leaves all.1 i)

-- the schema of a set of leaves is that of its block
set-schema : (tables : Tables) (set : LeafSet) (leaves : List BlockLeaf) (conds : List Cond) → AllByRecursion (IsRisen tables) leaves
    → rising (columns_in set (map (λ (leaf : BlockLeaf). leaf.columns) leaves)) ≡ rising (columns_of tables (tree.Block (chosen set (map leaf_tree leaves)) conds))
set-schema tables set leaves conds all =
    let trees = map leaf_tree leaves in
    ap (λ some. rising (flat_map (λ columns. columns) some))
    (ap (chosen set) (risen-columns tables leaves all) ∙ chosen-map rising set (map (columns_of tables) trees) ∙ ap (map rising) (chosen-map (columns_of tables) set trees))
    ∙ rising-all (map (columns_of tables) (chosen set trees))
    ∙ ap rising (flat_map-map (λ columns. columns) (columns_of tables) (chosen set trees) ∙ sym (columns-block tables (chosen set trees) conds))

module _ (tables : Tables) (meanings : List Meaning) (blocks : List BlockPart) (block : ℕ) (part : BlockPart) (there : slice_get blocks block ≡ Some part) (few : length part.leaves ≤ 10) where
  -- from some number on the leaves of the block are read
  abbrev pub LeavesFrom : ℕ → List BlockLeaf → Type 0
  LeavesFrom first leaves = (number : ℕ) → first ≤ number → EachMeansTree meanings number (map leaf_id leaves) (map leaf_tree leaves)

  module _ (first : ℕ) where
    one-leaf : (place : ℕ) (id : GroupId) (t : Tree) (number : ℕ) → slice_get part.leaves place ≡ Some id → MeansTree meanings number id t
        → EachMeansTree meanings number (chosen (set_of (2 ^ place)) part.leaves) (t ∷ [])
    one-leaf place id t number at means =
        subst (λ ids. EachMeansTree meanings number ids (t ∷ [])) (sym (ap (λ set. chosen set part.leaves) (set_of-one place) ∙ chosen-only part.leaves place id at)) (means, tt)

    second-reads : (place : ℕ) (leaf : BlockLeaf) (some : List Cond) → inside_leaf block part.conds leaf ≡ some → (number : ℕ) → slice_get part.leaves place ≡ Some (leaf_id leaf)
        → MeansTree meanings number (leaf_id leaf) leaf.tree → IsRisen tables leaf → Each (GroupReads tables meanings blocks) number (second_group block place leaf some)
    second-reads place leaf [] is number at means risen = tt
    second-reads place leaf (c ∷ rest) is number at means risen = (
      record {
        reads = record {
          part = part;
          there = there;
          reads = record {
            few = few;
            trees = leaf.tree ∷ [];
            each = one-leaf place (leaf_id leaf) leaf.tree number at means;
            is = ap (λ conds. exactly (tree.Block (leaf.tree ∷ []) conds)) (sym is);
          };
        };
        schema = risen ∙ ap rising (sym (columns-block tables (leaf.tree ∷ []) (c ∷ rest) ∙ append-nil (columns_of tables leaf.tree)));
      },
      tt,
    )

    seconds-read : (place : ℕ) (leaves : List BlockLeaf) → StandAt part.leaves place (map leaf_id leaves) → LeavesFrom first leaves → AllByRecursion (IsRisen tables) leaves → (number : ℕ) → first ≤ number
        → Each (GroupReads tables meanings blocks) number (second_groups block part.conds place leaves)
    seconds-read place [] at means risen number le = tt
    seconds-read place (leaf ∷ leaves) at means risen number le =
        each-append (GroupReads tables meanings blocks) number (second_group block place leaf (inside_leaf block part.conds leaf)) (second_groups block part.conds (suc place) leaves)
        (second-reads place leaf (inside_leaf block part.conds leaf) refl number at.0 (means number le).0 risen.0)
        (seconds-read (suc place) leaves at.1 (λ n more. (means n more).1) risen.1 (number + length (second_group block place leaf (inside_leaf block part.conds leaf))) (omega (arith, le)))

    module _ (level : Level) (leaves : List BlockLeaf) (ids : part.leaves ≡ map leaf_id leaves) (means : LeavesFrom first leaves) (risen : AllByRecursion (IsRisen tables) leaves) where
      abbrev columns : List Columns
      columns = map (λ (leaf : BlockLeaf). leaf.columns) leaves

      set-reads : (mask number : ℕ) → first ≤ number → GroupReads tables meanings blocks number (set_group block level part.conds leaves first mask)
      set-reads mask number le = record {
        reads = record {
          part = part;
          there = there;
          reads = record {
            few = few;
            trees = chosen (set_of mask) (map leaf_tree leaves);
            each =
                subst (λ all. EachMeansTree meanings number (chosen (set_of mask) all) (chosen (set_of mask) (map leaf_tree leaves))) (sym ids)
                (each-chosen meanings number (set_of mask) (map leaf_id leaves) (map leaf_tree leaves) (means number le));
            is = ap (λ test. exactly (tree.Block (chosen (set_of mask) (map leaf_tree leaves)) (filter test part.conds))) (sym (inside-rising (columns_in (set_of mask) columns)));
          };
        };
        schema = set-schema tables (set_of mask) leaves (inside (set_of mask) columns part.conds) risen;
      }

      sets-read : (masks : List ℕ) (number : ℕ) → first ≤ number → Each (GroupReads tables meanings blocks) number (map (set_group block level part.conds leaves first) masks)
      sets-read [] number le = tt
      sets-read (mask ∷ masks) number le = (set-reads mask number le, sets-read masks (suc number) (omega (arith, le)))

      pub block-reads : Each (GroupReads tables meanings blocks) first (block_groups block level part.conds leaves first)
      block-reads =
          each-append (GroupReads tables meanings blocks) first (seconds block level part.conds leaves first) (map (set_group block level part.conds leaves first) (filter (has_set level) (below (2 ^ length leaves))))
          (seconds-read 0 leaves (subst (λ all. StandAt all 0 (map leaf_id leaves)) (sym ids) (stand-itself (map leaf_id leaves))) means risen first (omega arith))
          (sets-read (filter (has_set level) (below (2 ^ length leaves))) (first + length (seconds block level part.conds leaves first)) (omega arith))
