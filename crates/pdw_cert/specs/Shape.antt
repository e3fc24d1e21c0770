-- The shape of bounds: for each group one list, in it one bound for each property of the group.
use Rattle.std.specs.Prelude.{◌==◌, ◌-◌, ℕ, suc, List, [], ◌∷◌, length, Option, Some, None, if◌then◌else◌}
use Rattle.std.specs.List.{AllByRecursion, slice_get}
use Rattle.std.specs.Option.{option_and_then, option_map}
use Rattle.pdw_groups.specs.declared.group.Group.{Group}
use Rattle.pdw_groups.specs.declared.key.GroupId.{GroupId}
use Rattle.pdw_rules.specs.Rules.{properties_of}
use Rattle.pdw_ways.specs.Bounds.{IsSmall, least_in}

-- each bound is far below what numbers of 128 bits hold, as each number of 32 digits is
abbrev pub AreSmallNumbers : List (List (Option ℕ)) → Type 0
AreSmallNumbers lists = AllByRecursion (AllByRecursion IsSmall) lists

-- the first group, by number, whose list is missing, surplus, or of another length than its properties
abbrev pub first_misshapen : List Group → List (List (Option ℕ)) → Option ℕ
first_misshapen [] [] = None
first_misshapen [] (surplus ∷ lists) = Some 0
first_misshapen (group ∷ groups) [] = Some 0
first_misshapen (group ∷ groups) (list ∷ lists) = if length list == length (properties_of group.interesting) then option_map suc (first_misshapen groups lists) else Some 0

-- the root is the last group
abbrev pub root_of : List Group → GroupId
root_of groups = record { 0 = length groups - 1 }

-- the least of the root's bounds
abbrev pub least_of_root : List Group → List (List (Option ℕ)) → Option ℕ
least_of_root groups lists = option_and_then least_in (slice_get lists (root_of groups).0)
