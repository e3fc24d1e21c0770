-- What becomes of the groups of a memo whose blocks are joined as they are written. They are gone through in their order: in the
-- place of the last set of a block stand the sets of the block's level, its other sets are left out, and any other group
-- stands there with the new numbers of its children.
use Rattle.std.specs.Prelude.{◌≡◌, ⊤, true, false, ℕ, ◌+◌, ◌-◌, ◌^◌, ◌<◌, ◌≤◌, ◌==◌, Bool, List, [], ◌∷◌, ◌++◌, length, map, fold, slice_index_or, if◌then◌else◌}
use Rattle.std.specs.List.{AllByRecursion}
use Rattle.pdw_base.specs.declared.schema.ColId.{ColId}
use Rattle.pdw_explore.specs.declared.grown.Grown.{Grown}
use Rattle.pdw_groups.specs.Level.{is_several}
use Rattle.pdw_groups.specs.Memo.{Contents}
use Rattle.pdw_groups.specs.Sets.{kept_sets, kept_singles}
use Rattle.pdw_groups.specs.declared.block.BlockPart.{BlockPart}
use Rattle.pdw_groups.specs.declared.block.Level.{Level}
use Rattle.pdw_groups.specs.declared.block.Level.TheVariants as level
use Rattle.pdw_groups.specs.declared.group.Expr.{Expr}
use Rattle.pdw_groups.specs.declared.group.Group.{Group}
use Rattle.pdw_groups.specs.declared.key.GroupId.{GroupId}
use Rattle.pdw_groups.specs.declared.key.GroupKey.{GroupKey}
use Rattle.pdw_groups.specs.declared.key.GroupKey.TheVariants as key
use Rattle.pdw_groups.specs.declared.sets.Side.{Side}

-- ---- numbers

abbrev pub new_number : List GroupId → GroupId → GroupId
new_number numbers old = slice_index_or numbers old.0 (record { 0 = 0 })

abbrev pub renumbered_expr : List GroupId → Expr → Expr
renumbered_expr numbers expr = record { op = expr.op; children = map (new_number numbers) expr.children }

abbrev pub renumbered : List GroupId → Group → Group
renumbered numbers group = record { key = group.key; schema = group.schema; interesting = group.interesting; exprs = map (renumbered_expr numbers) group.exprs }

-- the number of the last of some groups
abbrev pub last_of : List Group → GroupId
last_of groups = record { 0 = length groups - 1 }

-- ---- groups that stay, and groups that are left out

abbrev pub stays : Grown → Group → Grown
stays grown group = record {
  groups = grown.groups ++ renumbered grown.numbers group ∷ [];
  numbers = grown.numbers ++ record { 0 = length grown.groups } ∷ [];
}

abbrev pub left_out : Grown → Grown
left_out grown = record { groups = grown.groups; numbers = grown.numbers ++ last_of grown.groups ∷ [] }

-- each child has a new number
pub record CanStay (grown : Grown) (group : Group) : Type 0 where
  pub children : AllByRecursion (λ expr. AllByRecursion (λ child. child.0 < length grown.numbers) expr.children) group.exprs
  pub room : length grown.groups < 2 ^ 31

-- ---- the sets of a block

abbrev pub no_group : Group
no_group = record { key = key.Whole 0; schema = []; interesting = []; exprs = [] }

abbrev pub no_block : BlockPart
no_block = record { leaves = []; conds = []; level = level.Written }

-- a leaf of a block by its new number
abbrev pub leaf_at : Grown → GroupId → Side
leaf_at grown leaf = record {
  group = new_number grown.numbers leaf;
  schema = (slice_index_or grown.groups (new_number grown.numbers leaf).0 no_group).schema;
}

-- the number after that of the last leaf
abbrev pub after_leaves : List Side → ℕ
after_leaves sides = fold (λ before side. side.group.0 + 1) 0 sides

abbrev pub with_sets : List ColId → ℕ → Level → BlockPart → List Side → List Group → List Group
with_sets useful block level part sides groups =
    groups ++ kept_sets useful block level sides part.conds (kept_singles part.conds (after_leaves sides) sides) (length groups) (2 ^ length sides)

-- the sets of a block at a level, of which the last has all its leaves
abbrev pub explored : List ColId → ℕ → Level → BlockPart → Grown → Grown
explored useful block level part grown = record {
  groups = with_sets useful block level part (map (leaf_at grown) part.leaves) grown.groups;
  numbers = grown.numbers ++ last_of (with_sets useful block level part (map (leaf_at grown) part.leaves) grown.groups) ∷ [];
}

-- whether a set has all the leaves of its block
abbrev pub is_whole : BlockPart → ℕ → Bool
is_whole part leaves = leaves + 1 == 2 ^ length part.leaves

-- ---- any group

-- before the first group
abbrev pub nothing : Grown
nothing = record { groups = []; numbers = [] }

module _ (blocks : List BlockPart) (levels : List Level) where
  abbrev pub part_at : ℕ → BlockPart
  part_at block = slice_index_or blocks block no_block

  abbrev pub level_at : ℕ → Level
  level_at block = slice_index_or levels block level.Written

  -- of the interesting columns of a set those of the sets in its place follow
  abbrev pub set_grown : Grown → List ColId → ℕ → ℕ → Grown
  set_grown grown useful block leaves = if is_whole (part_at block) leaves then explored useful block (level_at block) (part_at block) grown else left_out grown

  abbrev pub grown_by : Grown → Group → GroupKey → Grown
  grown_by grown group (key.Part block leaves) = if is_several leaves then set_grown grown group.interesting block leaves else stays grown group
  grown_by grown group (key.Whole number) = stays grown group
  grown_by grown group (key.Partial number) = stays grown group

  abbrev pub grown_with : Grown → Group → Grown
  grown_with grown group = grown_by grown group group.key

  abbrev pub grown_all : Grown → List Group → Grown
  grown_all grown groups = fold grown_with grown groups

  -- ---- what is there when a group's turn comes

  pub record CanExplore (grown : Grown) (block : ℕ) : Type 0 where
    pub part : block < length blocks
    pub level : block < length levels
    pub few : length (part_at block).leaves ≤ 10
    pub leaves : AllByRecursion (λ leaf. (leaf.0 < length grown.numbers) × ((new_number grown.numbers leaf).0 < length grown.groups)) (part_at block).leaves
    pub room : length grown.groups < 2 ^ 31

  abbrev pub CanGrowBy : Grown → Group → GroupKey → Type 0
  CanGrowBy grown group (key.Part block leaves) = (is_several leaves ≡ true → CanExplore grown block) × (is_several leaves ≡ false → CanStay grown group)
  CanGrowBy grown group (key.Whole number) = CanStay grown group
  CanGrowBy grown group (key.Partial number) = CanStay grown group

  abbrev pub CanGrow : Grown → List Group → Type 0
  CanGrow grown [] = ⊤
  CanGrow grown (group ∷ groups) = CanGrowBy grown group group.key × CanGrow (grown_with grown group) groups

-- ---- blocks

abbrev pub moved_block : List GroupId → Level → BlockPart → BlockPart
moved_block numbers level part = record { leaves = map (new_number numbers) part.leaves; conds = part.conds; level = level }

-- the blocks of the new memo, each with its level
abbrev pub moved_blocks : List GroupId → List Level → List BlockPart → List BlockPart
moved_blocks numbers [] parts = []
moved_blocks numbers (level ∷ levels) [] = []
moved_blocks numbers (level ∷ levels) (part ∷ parts) = moved_block numbers level part ∷ moved_blocks numbers levels parts

-- ---- the whole memo

abbrev pub grown_memo : List Level → Contents → Contents
grown_memo levels memo = record {
  groups = (grown_all memo.blocks levels nothing memo.groups).groups;
  blocks = moved_blocks (grown_all memo.blocks levels nothing memo.groups).numbers levels memo.blocks;
}
