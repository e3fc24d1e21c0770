-- The root of a memo, and the property under which its rows are made at the least cost.
use Rattle.std.specs.Prelude.{◌≡◌, ◌==◌, ◌-◌, ⊤, ℕ, false, List, [], ◌∷◌, length, Option, Some, IfSome}
use Rattle.std.specs.List.{AllByRecursion, slice_get}
use Rattle.std.specs.Option.{IsSome, option_and_then, option_map}
use Rattle.pdw_base.specs.declared.schema.ColId.{ColId}
use Rattle.pdw_enum.specs.declared.root.Least.{Least}
use Rattle.pdw_groups.specs.declared.group.Group.{Group}
use Rattle.pdw_groups.specs.declared.key.GroupId.{GroupId}
use Rattle.pdw_ways.specs.Bounds.{bound_in, least_in}
use Rattle.pdw_ways.specs.declared.made.Made.{Made}

-- the last group
abbrev pub root_of : List Group → GroupId
root_of groups = record { 0 = length groups - 1 }

-- the least of its bounds; unreachable where there is no root
abbrev pub least_of_root : List Group → List (List (Option ℕ)) → Option ℕ
least_of_root groups lists = option_and_then least_in (slice_get lists (root_of groups).0)

-- each column has another number than all before it
abbrev pub AreDifferent : List ColId → Type 0
AreDifferent [] = ⊤
AreDifferent (c ∷ columns) = AllByRecursion (λ (later : ColId). (later.0 == c.0) ≡ false) columns × AreDifferent columns

-- groups of which there is a last, whose interesting columns are different
pub record IsRooted (groups : List Group) : Type 0 where
  pub root : Group
  pub there : slice_get groups (root_of groups).0 ≡ Some root
  pub different : AreDifferent root.interesting

-- ---- a bound in a list

abbrev pub bound_at : Option Least → Option ℕ
bound_at found = option_map (λ (least : Least). least.cost) found

-- it stands at its place
abbrev pub Stands : List (Option ℕ) → Option Least → Type 0
Stands bounds found = IfSome found (λ (least : Least). slice_get bounds least.place ≡ Some (Some least.cost))

-- ---- what is made of the root

-- the rows of the root under a property that has the least of its bounds
pub record IsCheapest (groups : List Group) (lists : List (List (Option ℕ))) (made : Made) : Type 0 where
  pub root : made.group ≡ root_of groups
  pub least : bound_in groups lists made ≡ least_of_root groups lists
  pub reached : IsSome (bound_in groups lists made)
