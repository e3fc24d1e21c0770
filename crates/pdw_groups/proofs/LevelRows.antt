-- The left parts of sets of three and four leaves, worked out by hand.
use Rattle.std.specs.Prelude.{◌≡◌, [], ◌∷◌}
use Rattle.std.proofs.Common.{refl}
use Rattle.pdw_groups.specs.Level.{below, has_set, lefts}
use Rattle.pdw_groups.specs.declared.block.Level.TheVariants as level
use Rattle.std.specs.List.{filter}
use lib.Count.{ones}

-- each part of three leaves but none and all
pub lefts-full : lefts level.Full 7 ≡ 1 ∷ 2 ∷ 3 ∷ 4 ∷ 5 ∷ 6 ∷ []
unfolding ones
lefts-full = refl

-- of two and two leaves none
pub lefts-linear : lefts level.Linear 15 ≡ 1 ∷ 2 ∷ 4 ∷ 7 ∷ 8 ∷ 11 ∷ 13 ∷ 14 ∷ []
unfolding ones
lefts-linear = refl

-- the first three leaves, and then the fourth
pub lefts-written : lefts level.Written 15 ≡ 7 ∷ []
unfolding ones
lefts-written = refl

pub sets-written : filter (has_set level.Written) (below 16) ≡ 3 ∷ 7 ∷ 15 ∷ []
unfolding ones
sets-written = refl

pub sets-full : filter (has_set level.Full) (below 8) ≡ 3 ∷ 5 ∷ 6 ∷ 7 ∷ []
unfolding ones
sets-full = refl
