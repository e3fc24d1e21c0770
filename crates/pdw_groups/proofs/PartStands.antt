-- The joins of a block's parts stand for the parts that they make.
use Rattle.std.proofs.Common.{◌≡◌, ℕ, suc, ◌+◌, Bool, true, false, List, [], ◌∷◌, length, map, refl, sym, ap, ap₂, subst, ◌∙◌, append-nil, true≢false, if◌then◌else◌}
use Rattle.std.specs.Int.Bits.{bit_xor}
use Rattle.std.specs.List.{filter, flat_map}
use Rattle.std.proofs.lemmas.Simd.{map-map}
use Rattle.pdw_algebra.proofs.Products.{filter-all, products-one}
use Rattle.pdw_algebra.proofs.TreeFolds.{fold-block}
use Rattle.pdw_algebra.specs.Meaning.{rows_of, rows_step}
use Rattle.pdw_algebra.specs.declared.tree.Tree.{Tree}
use Rattle.pdw_base.proofs.SameBagLaws.{SameBag-trans, SameBag-≡}
use Rattle.pdw_base.specs.SameBag.{SameBag}
use Rattle.pdw_base.specs.Schema.{Columns, Env}
use Rattle.pdw_catalog.specs.Database.{Database}
use Rattle.pdw_expr.specs.Rows.{filtered, joined, meets, products}
use Rattle.pdw_expr.specs.declared.agg.JoinKind.TheVariants as kind
use Rattle.pdw_expr.specs.declared.cond.Cond.{Cond}
use Rattle.pdw_groups.proofs.OperatorLaws.{admit-two, rows-leaf}
use Rattle.pdw_groups.proofs.SetLaws.{left-inside, parts-disjoint, parts-together}
use Rattle.pdw_groups.specs.Block.{BlockLeaf, columns_of_leaves, inside_leaf, join_of, one_or, part_of, part_tree, second_group, set_number, single_part, single_parts}
use Rattle.pdw_groups.specs.Group.{Child}
use Rattle.pdw_groups.specs.Level.{is_left, set_of}
use Rattle.pdw_groups.specs.Meaning.{Admits, Stands, exactly}
use Rattle.pdw_groups.specs.declared.block.Level.{Level}
use Rattle.pdw_parts.proofs.PartLaws.{chosen-map, part-join}
use Rattle.pdw_parts.specs.Part.{AreLeaves, Leaf, LeafSet, between, chosen, inside, is_inside, leaf_columns, leaf_rows, part_rows}

-- ---- a part of one leaf

abbrev later : LeafSet → LeafSet
later set i = set (suc i)

abbrev is_more : {X : Type 0} → List X → Bool
is_more [] = false
is_more (x ∷ xs) = true

module _ (block : ℕ) (conds : List Cond) where
  abbrev next_of : ℕ → BlockLeaf → ℕ
  next_of next leaf = next + length (second_group block 0 leaf (inside_leaf block conds leaf))

  -- no leaf is chosen where no part is
  none-chosen : (set : LeafSet) (next : ℕ) (leaves : List BlockLeaf) → chosen set (single_parts block conds next leaves) ≡ [] → chosen set leaves ≡ []
  none-chosen set next [] none = refl
  none-chosen set next (leaf ∷ leaves) none = by (set 0) (none-chosen (later set) (next_of next leaf) leaves) none
    where
      by : (b : Bool) → (chosen (λ i. set (suc i)) (single_parts block conds (next_of next leaf) leaves) ≡ [] → chosen (λ i. set (suc i)) leaves ≡ [])
          → (if b then single_part next leaf (inside_leaf block conds leaf) ∷ chosen (λ i. set (suc i)) (single_parts block conds (next_of next leaf) leaves)
          else chosen (λ i. set (suc i)) (single_parts block conds (next_of next leaf) leaves)) ≡ []
          → (if b then leaf ∷ chosen (λ i. set (suc i)) leaves else chosen (λ i. set (suc i)) leaves) ≡ []
      by true rest none = absurd (true≢false (ap is_more none))
      by false rest none = rest none

  -- one part is chosen: it is that of one leaf, which is chosen alone
  pub record OneLeaf (set : LeafSet) (leaves : List BlockLeaf) (single : Child) : Type 0 where
    pub leaf : BlockLeaf
    pub number : ℕ
    pub alone : chosen set leaves ≡ leaf ∷ []
    pub is : single ≡ single_part number leaf (inside_leaf block conds leaf)

  one-chosen : (set : LeafSet) (next : ℕ) (leaves : List BlockLeaf) (single : Child) → chosen set (single_parts block conds next leaves) ≡ single ∷ [] → OneLeaf set leaves single
  one-chosen set next [] single one = absurd (true≢false (ap is_more (sym one)))
  one-chosen set next (leaf ∷ leaves) single one = by (set 0) refl (one-chosen (later set) (next_of next leaf) leaves single) (none-chosen (later set) (next_of next leaf) leaves) one
    where
      by : (b : Bool) → set 0 ≡ b
          → (chosen (λ i. set (suc i)) (single_parts block conds (next_of next leaf) leaves) ≡ single ∷ [] → OneLeaf (later set) leaves single)
          → (chosen (λ i. set (suc i)) (single_parts block conds (next_of next leaf) leaves) ≡ [] → chosen (λ i. set (suc i)) leaves ≡ [])
          → (if b then single_part next leaf (inside_leaf block conds leaf) ∷ chosen (λ i. set (suc i)) (single_parts block conds (next_of next leaf) leaves)
          else chosen (λ i. set (suc i)) (single_parts block conds (next_of next leaf) leaves)) ≡ single ∷ []
          → OneLeaf set (leaf ∷ leaves) single
      by true is more none one = record {
        leaf = leaf;
        number = next;
        alone = ap (λ (b : Bool). if b then leaf ∷ chosen (λ i. set (suc i)) leaves else chosen (λ i. set (suc i)) leaves) is ∙ ap (λ rest. leaf ∷ rest) (none (rest_same one));
        is = sym (first_same one);
      }
        where
          first_same : {a b : Child} {xs ys : List Child} → (a ∷ xs) ≡ (b ∷ ys) → a ≡ b
          first_same same = cc

          rest_same : {a b : Child} {xs ys : List Child} → (a ∷ xs) ≡ (b ∷ ys) → xs ≡ ys
          rest_same same = cc
      by false is more none one =
          let found = more one in
          record {
            leaf = found.leaf;
            number = found.number;
            alone = ap (λ (b : Bool). if b then leaf ∷ chosen (λ i. set (suc i)) leaves else chosen (λ i. set (suc i)) leaves) is ∙ found.alone;
            is = found.is;
          }

-- ---- what parts mean

module _ (database : Database) where
  abbrev rows : Tree → List Env
  rows = rows_of database

  -- a leaf of a block, with its rows
  abbrev pub as_leaf : BlockLeaf → Leaf
  as_leaf leaf = record { columns = leaf.columns; rows = rows leaf.tree }

  -- a leaf by itself, filtered by conjuncts where there are any
  single-means : (next : ℕ) (leaf : BlockLeaf) (conds : List Cond) (bag : List Env) → Admits database (single_part next leaf conds).means bag → SameBag bag (filtered conds (rows leaf.tree))
  single-means next leaf [] bag same = SameBag-trans same (SameBag-≡ (sym (filter-all (meets []) (λ row. refl) (rows leaf.tree))))
  single-means next leaf (first ∷ rest) bag same = SameBag-trans same (SameBag-≡ (rows-leaf database leaf.tree (first ∷ rest)))

  module _ (block : ℕ) (level : Level) (conds : List Cond) (leaves : List BlockLeaf) (first : ℕ) where
    abbrev sides : List Leaf
    sides = map as_leaf leaves

    abbrev columns : List Columns
    columns = columns_of_leaves block level conds leaves first

    abbrev rows_in : LeafSet → List Env
    rows_in set = part_rows set sides conds

    columns-same : leaf_columns sides ≡ columns
    columns-same = map-map (λ leaf. leaf.columns) as_leaf leaves

    rows-chosen : (set : LeafSet) → chosen set (leaf_rows sides) ≡ map rows (chosen set (map (λ leaf. leaf.tree) leaves))
    rows-chosen set =
        ap (chosen set) (map-map (λ leaf. leaf.rows) as_leaf leaves ∙ sym (map-map rows (λ (leaf : BlockLeaf). leaf.tree) leaves))
        ∙ chosen-map rows set (map (λ leaf. leaf.tree) leaves)

    -- the tree of a part means its rows
    pub part-tree_rows : (set : LeafSet) → rows (part_tree block level conds leaves first set) ≡ rows_in set
    part-tree_rows set =
        fold-block (rows_step database) (chosen set (map (λ leaf. leaf.tree) leaves)) (inside set columns conds)
        ∙ ap₂ (λ conjuncts parts. filtered conjuncts (products parts)) (ap (λ all. inside set all conds) (sym columns-same)) (sym (rows-chosen set))

    one-rows : (set : LeafSet) (leaf : BlockLeaf) → chosen set leaves ≡ leaf ∷ [] → filtered (inside_leaf block conds leaf) (rows leaf.tree) ≡ rows_in set
    one-rows set leaf alone =
        ap₂ (λ cs rs. filtered (filter (is_inside cs) conds) rs) (sym (append-nil leaf.columns)) (sym (products-one (rows leaf.tree)))
        ∙ sym (ap₂ (λ cs rs. filtered (filter (is_inside (flat_map (λ columns. columns) cs)) conds) (products rs))
        (ap (chosen set) columns-same ∙ chosen-map (λ leaf. leaf.columns) set leaves ∙ ap (map (λ leaf. leaf.columns)) alone)
        (ap (chosen set) (map-map (λ leaf. leaf.rows) as_leaf leaves) ∙ chosen-map (λ leaf. rows leaf.tree) set leaves ∙ ap (map (λ (leaf : BlockLeaf). rows leaf.tree)) alone))

    -- what the part of a set admits is a bag of its rows
    pub part-means : (mask : ℕ) (bag : List Env) → Admits database (part_of block level conds leaves first mask).means bag → SameBag bag (rows_in (set_of mask))
    part-means mask bag admitted = by (chosen (set_of mask) (single_parts block conds first leaves)) refl admitted
      where
        other : Child
        other = record { number = set_number block level conds leaves first mask; means = exactly (part_tree block level conds leaves first (set_of mask)) }

        by : (some : List Child) → chosen (set_of mask) (single_parts block conds first leaves) ≡ some
            → Admits database (one_or some (record { number = set_number block level conds leaves first mask; means = exactly (part_tree block level conds leaves first (set_of mask)) })).means bag → SameBag bag (rows_in (set_of mask))
        by [] is same = SameBag-trans same (SameBag-≡ (part-tree_rows (set_of mask)))
        by (single ∷ []) is holds =
            let one = one-chosen block conds (set_of mask) first leaves single is in
            SameBag-trans (single-means one.number one.leaf (inside_leaf block conds one.leaf) bag (subst (λ (child : Child). Admits database child.means bag) one.is holds))
            (SameBag-≡ (one-rows (set_of mask) one.leaf one.alone))
        by (single ∷ second ∷ rest) is same = SameBag-trans same (SameBag-≡ (part-tree_rows (set_of mask)))

    -- the join of a left part and of what is left stands for the part of the set
    pub stands-parts : AreLeaves sides → (mask left : ℕ) → is_left level mask left ≡ true
        → Stands database (exactly (part_tree block level conds leaves first (set_of mask))) (join_of block level conds leaves first mask left).operator
        (map (λ child. child.means) (join_of block level conds leaves first mask left).children)
    stands-parts sound mask left is = record {
      admitted = admit-two database (λ bag. SameBag bag (rows (part_tree block level conds leaves first (set_of mask))))
          (joined kind.Inner (between (set_of left) (set_of (bit_xor left mask)) columns conds)) (part_of block level conds leaves first left).means (part_of block level conds leaves first (bit_xor left mask)).means
          (λ ls rs first_bag second_bag.
          let inside_set = left-inside level mask left is in
          subst (λ all. SameBag (joined kind.Inner (between (set_of left) (set_of (bit_xor left mask)) all conds) ls rs) (rows (part_tree block level conds leaves first (set_of mask)))) columns-same
          (SameBag-trans
          (part-join sides sound conds (set_of left) (set_of (bit_xor left mask)) (parts-disjoint mask left inside_set) ls rs (part-means left ls first_bag) (part-means (bit_xor left mask) rs second_bag))
          (SameBag-≡ (ap rows_in (parts-together mask left inside_set) ∙ sym (part-tree_rows (set_of mask))))));
    }
