-- The groups of a block, after those of its leaves: for each leaf with conjuncts inside it a second one, and one for each set of
-- two or more leaves that its level has.
use Rattle.std.specs.Prelude.{ℕ, suc, ◌+◌, ◌^◌, List, [], ◌∷◌, ◌++◌, length, map}
use Rattle.std.specs.Int.Bits.{bit_xor}
use Rattle.std.specs.List.{filter}
use Rattle.pdw_algebra.specs.Schema.{rising}
use Rattle.pdw_algebra.specs.declared.tree.Tree.{Tree}
use Rattle.pdw_algebra.specs.declared.tree.Tree.TheVariants as tree
use Rattle.pdw_base.specs.Schema.{Columns}
use Rattle.pdw_expr.specs.declared.agg.JoinKind.TheVariants as kind
use Rattle.pdw_expr.specs.declared.cond.Cond.{Cond}
use Rattle.pdw_groups.specs.Group.{Child, ExprOf, GroupOf}
use Rattle.pdw_groups.specs.Level.{below, has_set, lefts, set_of}
use Rattle.pdw_groups.specs.Meaning.{exactly}
use Rattle.pdw_groups.specs.declared.block.Level.{Level}
use Rattle.pdw_groups.specs.declared.key.GroupKey.TheVariants as key
use Rattle.pdw_groups.specs.declared.op.Op.TheVariants as op
use Rattle.pdw_parts.specs.Part.{LeafSet, between, chosen, columns_in, inside, is_inside}

-- a leaf of a block: its group's number, its tree, and the schema of its group
pub record BlockLeaf : Type 0 where
  pub number : ℕ
  pub tree : Tree
  pub columns : Columns

abbrev pub own_child : BlockLeaf → Child
own_child leaf = record { number = leaf.number; means = exactly leaf.tree }

-- ---- single leaves

-- a leaf filtered by conjuncts
abbrev pub leaf_filtered : BlockLeaf → List Cond → Tree
leaf_filtered leaf conds = tree.Block (leaf.tree ∷ []) conds

-- the second group of a leaf, by the conjuncts inside it
abbrev pub second_group : ℕ → ℕ → BlockLeaf → List Cond → List GroupOf
second_group block place leaf [] = []
second_group block place leaf (first ∷ rest) = record {
  key = key.Part block (2 ^ place);
  means = exactly (leaf_filtered leaf (first ∷ rest));
  schema = leaf.columns;
  exprs = record { operator = op.Filter (first ∷ rest); children = own_child leaf ∷ [] } ∷ [];
} ∷ []

-- a leaf as a part by itself: its second group, which has this number, or its own where no conjunct lies inside it
abbrev pub single_part : ℕ → BlockLeaf → List Cond → Child
single_part next leaf [] = own_child leaf
single_part next leaf (first ∷ rest) = record { number = next; means = exactly (leaf_filtered leaf (first ∷ rest)) }

module _ (block : ℕ) (conds : List Cond) where
  -- the conjuncts inside a leaf
  abbrev pub inside_leaf : BlockLeaf → List Cond
  inside_leaf leaf = filter (is_inside leaf.columns) conds

  -- the second groups of leaves, of which the first has this place
  abbrev pub second_groups : ℕ → List BlockLeaf → List GroupOf
  second_groups place [] = []
  second_groups place (leaf ∷ leaves) = second_group block place leaf (inside_leaf leaf) ++ second_groups (suc place) leaves

  -- each leaf as a part by itself, where the first second group has this number
  abbrev pub single_parts : ℕ → List BlockLeaf → List Child
  single_parts next [] = []
  single_parts next (leaf ∷ leaves) =
      single_part next leaf (inside_leaf leaf) ∷ single_parts (next + length (second_group block 0 leaf (inside_leaf leaf))) leaves

-- ---- sets of leaves

-- a part of one leaf, or else another
abbrev pub one_or : {X : Type 0} → List X → X → X
one_or (single ∷ []) other = single
one_or [] other = other
one_or (first ∷ second ∷ rest) other = other

-- a block at a level; the first group that it makes has the number `first`
module _ (block : ℕ) (level : Level) (conds : List Cond) (leaves : List BlockLeaf) (first : ℕ) where
  abbrev pub columns_of_leaves : List Columns
  columns_of_leaves = map (λ leaf. leaf.columns) leaves

  -- the block of a set of leaves, with every conjunct inside
  abbrev pub part_tree : LeafSet → Tree
  part_tree set = tree.Block (chosen set (map (λ leaf. leaf.tree) leaves)) (inside set columns_of_leaves conds)

  abbrev pub seconds : List GroupOf
  seconds = second_groups block conds 0 leaves

  -- the groups of sets stand after the second groups, by rising numbers of the sets
  abbrev pub set_number : ℕ → ℕ
  set_number mask = (first + length seconds) + length (filter (has_set level) (below mask))

  -- the part of a set: of one leaf, or of several
  abbrev pub part_of : ℕ → Child
  part_of mask = one_or (chosen (set_of mask) (single_parts block conds first leaves))
      (record { number = set_number mask; means = exactly (part_tree (set_of mask)) })

  -- the join of a left part and of what is left of a set
  abbrev pub join_of : ℕ → ℕ → ExprOf
  join_of mask left = record {
    operator = op.Join kind.Inner (between (set_of left) (set_of (bit_xor left mask)) columns_of_leaves conds);
    children = part_of left ∷ part_of (bit_xor left mask) ∷ [];
  }

  abbrev pub set_group : ℕ → GroupOf
  set_group mask = record {
    key = key.Part block mask;
    means = exactly (part_tree (set_of mask));
    schema = rising (columns_in (set_of mask) columns_of_leaves);
    exprs = map (join_of mask) (lefts level mask);
  }

  abbrev pub block_groups : List GroupOf
  block_groups = seconds ++ map set_group (filter (has_set level) (below (2 ^ length leaves)))
