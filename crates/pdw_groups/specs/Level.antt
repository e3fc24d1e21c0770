-- Sets of a block's leaves as numbers, and which of them a level has: bit i stands for leaf i.
use Rattle.std.specs.Prelude.{ℕ, suc, zero, ◌+◌, ◌==◌, ◌&&◌, ◌||◌, leb, Bool, true, not, List, [], ◌∷◌, ◌++◌, bit_and, count_ones}
use Rattle.std.specs.Int.{bit_at}
use Rattle.std.specs.Int.Bits.{bit_xor}
use Rattle.std.specs.List.{filter}
use Rattle.pdw_groups.specs.declared.block.Level.{Level}
use Rattle.pdw_groups.specs.declared.block.Level.TheVariants as level
use Rattle.pdw_parts.specs.Part.{LeafSet}

-- the leaves of a number
abbrev pub set_of : ℕ → LeafSet
set_of mask i = bit_at mask i == 1

-- the numbers below n, which rise
abbrev pub below : ℕ → List ℕ
below zero = []
below (suc n) = below n ++ n ∷ []

-- one leaf
abbrev pub is_one : ℕ → Bool
is_one mask = count_ones mask == 1

-- two or more leaves
abbrev pub is_several : ℕ → Bool
is_several mask = leb 2 (count_ones mask)

-- the sets of two or more leaves that a level has: all, or the first leaves as they are written
abbrev pub has_set : Level → ℕ → Bool
has_set level.Full mask = is_several mask
has_set level.Linear mask = is_several mask
has_set level.Written mask = is_several mask && is_one (mask + 1)

-- whether a level joins two sets that have no leaf in common
abbrev pub has_join : Level → ℕ → ℕ → Bool
has_join level.Full left right = true
has_join level.Linear left right = is_one left || is_one right
has_join level.Written left right = is_one right && (left + 1 == right)

-- whether a level makes a set of this left part and of what is left
abbrev pub is_left : Level → ℕ → ℕ → Bool
is_left level whole left = (bit_and left whole == left) && (not (left == 0) && has_join level left (bit_xor left whole))

-- the left parts by which a level makes a set, which rise
abbrev pub lefts : Level → ℕ → List ℕ
lefts level whole = filter (is_left level whole) (below whole)
