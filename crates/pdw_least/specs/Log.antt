-- The log of a search for least plans: each entry is a way to make rows that costs less than what was known before.
use Rattle.std.specs.Prelude.{◌≡◌, ◌==◌, ◌&&◌, ◌<◌, ⊤, ℕ, Bool, true, List, [], ◌∷◌, fold, Option, Some, None, if◌then◌else◌}
use Rattle.std.specs.List.{slice_get}
use Rattle.pdw_groups.specs.declared.group.Group.{Group}
use Rattle.pdw_rules.specs.Rules.{is_same}
use Rattle.pdw_ways.specs.Bounds.{Bound, sum_of}
use Rattle.pdw_ways.specs.Ways.{Costs, is_way}
use Rattle.pdw_ways.specs.declared.made.Made.{Made}
use Rattle.pdw_least.specs.declared.entry.Entry.{Entry}

abbrev pub is_same_made : Made → Made → Bool
is_same_made first second = (first.group.0 == second.group.0) && is_same first.prop second.prop

-- nothing is reachable before the first entry
abbrev pub none_before : Bound
none_before made = None

-- the bounds after an entry: what it makes costs what it says
abbrev pub put : Bound → Entry → Bound
put bound entry made = if is_same_made entry.made made then Some entry.cost else bound made

abbrev pub bounds_from : Bound → List Entry → Bound
bounds_from bound log = fold put bound log

abbrev pub bounds_after : List Entry → Bound
bounds_after log = bounds_from none_before log

-- each cost is below unreachable
abbrev pub IsBelow : ℕ → Option ℕ → Type 0
IsBelow cost None = ⊤
IsBelow cost (Some bound) = cost < bound

module _ (groups : List Group) (costs : Costs) where
  -- an entry is a way whose sum by the bounds before it is its cost
  pub record IsEntry (bound : Bound) (entry : Entry) : Type 0 where
    pub group : Group
    pub there : slice_get groups entry.made.group.0 ≡ Some group
    pub allowed : is_way group entry.made.prop entry.way ≡ true
    pub total : sum_of costs bound entry.made.group entry.way ≡ Some entry.cost

  -- each entry costs less than was known before for what it makes
  abbrev pub IsLogFrom : Bound → List Entry → Type 0
  IsLogFrom bound [] = ⊤
  IsLogFrom bound (entry ∷ log) = IsEntry bound entry × IsBelow entry.cost (bound entry.made) × IsLogFrom (put bound entry) log

  abbrev pub IsLog : List Entry → Type 0
  IsLog log = IsLogFrom none_before log
