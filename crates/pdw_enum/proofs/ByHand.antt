-- The root and the least of its bounds, worked out by hand.
use Rattle.std.proofs.Common.{◌≡◌, ℕ, List, [], ◌∷◌, Some, None, refl}
use Rattle.pdw_enum.specs.Flows.{flow_by}
use Rattle.pdw_enum.specs.Root.{least_of_root, root_of}
use Rattle.pdw_groups.specs.declared.group.Group.{Group}
use Rattle.pdw_groups.specs.declared.key.GroupKey.TheVariants as key

abbrev group : ℕ → Group
group number = record { key = key.Whole number; schema = []; interesting = []; exprs = [] }

abbrev groups : List Group
groups = group 0 ∷ group 1 ∷ []

-- of two groups the second is the root
second-root : (root_of groups).0 ≡ 1
second-root = refl

-- of the root's bounds 7, unreachable, 5 and 9 the third is the least, though the other group has a lower one
least-root : least_of_root groups ((Some 1 ∷ []) ∷ (Some 7 ∷ None ∷ Some 5 ∷ Some 9 ∷ []) ∷ []) ≡ Some 5
least-root = refl

-- where no bound is reached there is none
none-reached : least_of_root groups ((Some 1 ∷ []) ∷ (None ∷ None ∷ []) ∷ []) ≡ None
none-reached = refl

-- a move of a group of 1,000 rows of 12 bytes moves all of them
all-rows : (flow_by (record { rows = 1000; width = 12 })).rows ≡ 1000
all-rows = refl
