-- The rule of the budget, worked out by hand.
use Rattle.std.specs.Prelude.{◌≡◌, ℕ, ◌^◌, [], ◌∷◌, length}
use Rattle.std.specs.List.{filter, flat_map}
use Rattle.std.proofs.Common.{refl}
use Rattle.pdw_explore.specs.Levels.{full_count, level_list, linear_count, written_count}
use Rattle.pdw_groups.specs.Level.{below, has_set, lefts}
use Rattle.pdw_groups.specs.declared.block.Level.{Level}
use Rattle.pdw_groups.specs.declared.block.Level.TheVariants as level
use lib.Count.{ones}

-- ---- how many join expressions there are

pub full-1 : full_count 1 ≡ 0
full-1 = refl

pub linear-1 : linear_count 1 ≡ 0
linear-1 = refl

pub written-1 : written_count 1 ≡ 0
written-1 = refl

-- each of both leaves on the left
pub full-2 : full_count 2 ≡ 2
full-2 = refl

pub linear-2 : linear_count 2 ≡ 2
linear-2 = refl

pub written-2 : written_count 2 ≡ 1
written-2 = refl

-- three pairs of leaves, twice, and three parts of two leaves with the third, twice
pub full-3 : full_count 3 ≡ 12
full-3 = refl

pub linear-3 : linear_count 3 ≡ 12
linear-3 = refl

pub written-3 : written_count 3 ≡ 2
written-3 = refl

pub full-10 : full_count 10 ≡ 57002
full-10 = refl

pub linear-10 : linear_count 10 ≡ 10130
linear-10 = refl

pub written-10 : written_count 10 ≡ 9
written-10 = refl

-- ---- and the levels have as many

-- the left parts of all sets that a level has
abbrev joins_of : Level → ℕ → ℕ
joins_of l leaves = length (flat_map (lefts l) (filter (has_set l) (below (2 ^ leaves))))

pub joins-full-3 : joins_of level.Full 3 ≡ full_count 3
unfolding ones
joins-full-3 = refl

pub joins-linear-3 : joins_of level.Linear 3 ≡ linear_count 3
unfolding ones
joins-linear-3 = refl

pub joins-written-3 : joins_of level.Written 3 ≡ written_count 3
unfolding ones
joins-written-3 = refl

pub joins-full-4 : joins_of level.Full 4 ≡ full_count 4
unfolding ones
joins-full-4 = refl

pub joins-linear-4 : joins_of level.Linear 4 ≡ linear_count 4
unfolding ones
joins-linear-4 = refl

pub joins-written-4 : joins_of level.Written 4 ≡ written_count 4
unfolding ones
joins-written-4 = refl

-- ---- the budget

-- what the first block of three leaves takes is gone for the second
pub first-alone : level_list 13 (3 ∷ 3 ∷ []) ≡ level.Full ∷ level.Written ∷ []
first-alone = refl

-- the first block is too large for the budget, and takes nothing of it
pub second-alone : level_list 12 (4 ∷ 3 ∷ []) ≡ level.Written ∷ level.Full ∷ []
second-alone = refl

-- four leaves have 50 pairs, and 44 with a part of one leaf
pub linear-then : level_list 48 (4 ∷ 3 ∷ 2 ∷ []) ≡ level.Linear ∷ level.Written ∷ level.Full ∷ []
linear-then = refl

-- a block of one leaf takes nothing
pub one-leaf : level_list 2 (1 ∷ 2 ∷ 2 ∷ []) ≡ level.Full ∷ level.Full ∷ level.Written ∷ []
one-leaf = refl
