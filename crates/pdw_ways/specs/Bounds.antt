-- Bounds: what it costs at least to make the rows of each group under each property.
use Rattle.std.specs.Prelude.{◌≡◌, ⊤, ◌≤◌, ◌<◌, ◌^◌, ◌+◌, ℕ, suc, Bool, true, List, [], ◌∷◌, length, zip, Option, Some, None, fold, nat_lt, if◌then◌else◌}
use Rattle.std.specs.List.{slice_get}
use Rattle.std.specs.Map.{lookup}
use Rattle.std.specs.Option.{option_and_then, option_map}
use Rattle.pdw_base.specs.declared.schema.ColId.{ColId}
use Rattle.pdw_groups.specs.declared.group.Group.{Group}
use Rattle.pdw_groups.specs.declared.key.GroupId.{GroupId}
use Rattle.pdw_move.specs.declared.kinds.Prop.{Prop}
use Rattle.pdw_rules.specs.Rules.{is_same, properties_of}
use Rattle.pdw_ways.specs.Shape.{IsPlan, shape_of}
use Rattle.pdw_ways.specs.Ways.{Costs, adds, below, is_way}
use Rattle.pdw_ways.specs.declared.made.Made.{Made}
use Rattle.pdw_ways.specs.declared.plan.Plan.{Plan}
use Rattle.pdw_ways.specs.declared.way.Way.{Way}

-- ---- numbers, or unreachable, which is greater than every number

abbrev pub AtMost : Option ℕ → Option ℕ → Type 0
AtMost bound None = ⊤
AtMost None (Some limit) = ⊥
AtMost (Some bound) (Some limit) = bound ≤ limit

abbrev pub plus : Option ℕ → Option ℕ → Option ℕ
plus None more = None
plus (Some number) None = None
plus (Some number) (Some more) = Some (number + more)

-- far below what numbers of 128 bits hold, so that sums of two fit
abbrev pub IsSmall : Option ℕ → Type 0
IsSmall None = ⊤
IsSmall (Some bound) = bound < 2 ^ 126

-- ---- bounds

abbrev pub Bound : Type 0
Bound = Made → Option ℕ

abbrev pub AreSmall : Bound → Type 0
AreSmall bound = (made : Made) → IsSmall (bound made)

-- what bounds allow to some children together
abbrev pub together : Bound → List Made → Option ℕ
together bound [] = Some 0
together bound (made ∷ more) = plus (bound made) (together bound more)

-- and to a way: its children's bounds and what it adds
abbrev pub sum_of : Costs → Bound → GroupId → Way → Option ℕ
sum_of costs bound group way = plus (together bound (below group way)) (Some (adds costs group way))

module _ (groups : List Group) (costs : Costs) where
  -- no way to make these rows is allowed less than this
  abbrev pub IsUnder : Bound → Made → Option ℕ → Type 0
  IsUnder bound made limit = (group : Group) (way : Way) → slice_get groups made.group.0 ≡ Some group → is_way group made.prop way ≡ true → AtMost limit (sum_of costs bound made.group way)

  -- bounds are valid where each is at most what it allows to each way
  abbrev pub AreValid : Bound → Type 0
  AreValid bound = (made : Made) → IsUnder bound made (bound made)

  -- ---- least costs

  abbrev pub cost_of_plan : Plan → ℕ
  cost_of_plan plan = (shape_of groups costs plan).cost

  -- the least cost of a plan that makes these rows; unreachable where there is none
  abbrev pub IsLeast : Made → Option ℕ → Type 0
  IsLeast made None = (plan : Plan) → IsPlan groups costs plan made → ⊥
  IsLeast made (Some least) = ((plan : Plan) × (IsPlan groups costs plan made × (cost_of_plan plan ≡ least))) × ((plan : Plan) → IsPlan groups costs plan made → least ≤ cost_of_plan plan)

  abbrev pub AreLeast : Bound → Type 0
  AreLeast bound = (made : Made) → IsLeast made (bound made)

  -- no plan for the same group costs less, whatever its property
  abbrev pub NoneCheaper : GroupId → ℕ → Type 0
  NoneCheaper group cost = (plan : Plan) (prop : Prop) → IsPlan groups costs plan (record { group = group; prop = prop }) → cost ≤ cost_of_plan plan

-- ---- as they are kept: for each group a list over its properties

-- the place of the first that passes
abbrev pub place_among : {K : Type 0} → (K → Bool) → List K → Option ℕ
place_among test [] = None
place_among test (key ∷ keys) = if test key then Some 0 else option_map suc (place_among test keys)

-- a list has one bound for each property of a group with these interesting columns
abbrev pub bound_by : List ColId → List (Option ℕ) → Prop → Option ℕ
bound_by interesting list prop = option_and_then (λ bound. bound) (lookup (is_same prop) (zip (properties_of interesting) list))

-- the bounds of one group, for each of its properties
abbrev pub row_bound : List ColId → List (Option ℕ) → Bound
row_bound interesting list made = bound_by interesting list made.prop

abbrev pub bound_among : Prop → Option Group → Option (List (Option ℕ)) → Option ℕ
bound_among prop None list = None
bound_among prop (Some group) None = None
bound_among prop (Some group) (Some list) = bound_by group.interesting list prop

abbrev pub bound_in : List Group → List (List (Option ℕ)) → Bound
bound_in groups lists made = bound_among made.prop (slice_get groups made.group.0) (slice_get lists made.group.0)

-- one list for each group, in it one bound for each property of the group
abbrev pub HaveShape : List Group → List (List (Option ℕ)) → Type 0
HaveShape [] [] = ⊤
HaveShape [] (list ∷ lists) = ⊥
HaveShape (group ∷ groups) [] = ⊥
HaveShape (group ∷ groups) (list ∷ lists) = (length list ≡ length (properties_of group.interesting)) × HaveShape groups lists

-- the lesser of two
abbrev pub lesser : Option ℕ → Option ℕ → Option ℕ
lesser None other = other
lesser (Some bound) None = Some bound
lesser (Some bound) (Some other) = if nat_lt other bound then Some other else Some bound

-- the least of a list
abbrev pub least_in : List (Option ℕ) → Option ℕ
least_in bounds = fold lesser None bounds
