-- The levels of blocks: how far the joins of each are explored within a budget of join expressions.
use Rattle.std.specs.Prelude.{ℕ, ◌+◌, ◌-◌, ◌*◌, ◌^◌, leb, List, [], ◌∷◌, map, length, slice_index_or, if◌then◌else◌}
use Rattle.pdw_groups.specs.declared.block.BlockPart.{BlockPart}
use Rattle.pdw_groups.specs.declared.block.Level.{Level}
use Rattle.pdw_groups.specs.declared.block.Level.TheVariants as level

-- ---- how many join expressions a block of some leaves has

-- every ordered pair of disjoint parts that are not empty
abbrev pub full_count : ℕ → ℕ
full_count leaves = (3 ^ leaves + 1) - 2 * 2 ^ leaves

-- those pairs in which a part has one leaf, where there are two leaves or more
abbrev pub linear_count : ℕ → ℕ
linear_count leaves = if leb 2 leaves then leaves * 2 ^ leaves - (2 * leaves + leaves * (leaves - 1)) else 0

-- the joins from left to right
abbrev pub written_count : ℕ → ℕ
written_count leaves = leaves - 1

-- as many as the level has
abbrev pub level_count : Level → ℕ → ℕ
level_count level.Full leaves = full_count leaves
level_count level.Linear leaves = linear_count leaves
level_count level.Written leaves = written_count leaves

-- ---- the choice

-- the first of Full and Linear whose count fits what is left of the budget, and else Written
abbrev pub level_within : ℕ → ℕ → Level
level_within left leaves = if leb (full_count leaves) left then level.Full else (if leb (linear_count leaves) left then level.Linear else level.Written)

-- what a level takes of the budget: Written takes nothing
abbrev pub taken : Level → ℕ → ℕ
taken level.Full leaves = full_count leaves
taken level.Linear leaves = linear_count leaves
taken level.Written leaves = 0

-- the levels of blocks in rising number, by how many leaves they have
abbrev pub level_list : ℕ → List ℕ → List Level
level_list left [] = []
level_list left (leaves ∷ more) = level_within left leaves ∷ level_list (left - taken (level_within left leaves) leaves) more

-- the level of each block, by its number
abbrev pub levels_by : ℕ → List ℕ → ℕ → Level
levels_by budget counts block = slice_index_or (level_list budget counts) block level.Written

abbrev pub leaf_counts : List BlockPart → List ℕ
leaf_counts blocks = map (λ block. length block.leaves) blocks
