-- Bounds that are too high: each exceeds what the bounds allow to some way.
use Rattle.std.specs.Prelude.{◌≡◌, ◌<◌, ⊤, ℕ, suc, true, List, [], ◌∷◌, ◌++◌, map, Option, Some, None}
use Rattle.std.specs.List.{AllByRecursion, slice_get}
use Rattle.pdw_groups.specs.declared.group.Group.{Group}
use Rattle.pdw_groups.specs.declared.key.GroupId.{GroupId}
use Rattle.pdw_move.specs.declared.kinds.Prop.{Prop}
use Rattle.pdw_rules.specs.Rules.{properties_of}
use Rattle.pdw_ways.specs.Bounds.{Bound, IsUnder, sum_of}
use Rattle.pdw_ways.specs.Ways.{Costs, is_way}
use Rattle.pdw_ways.specs.declared.made.Made.{Made}
use Rattle.pdw_ways.specs.declared.way.Way.{Way}
use Rattle.pdw_cert.specs.declared.high.TooHigh.{TooHigh}

-- ---- the order of bounds

-- the rows of a group under each of its properties, in their order
abbrev pub made_at : GroupId → Group → List Made
made_at number group = map (λ (prop : Prop). let made : Made = record { group = number; prop = prop } in made) (properties_of group.interesting)

-- of all groups after so many others
abbrev pub made_after : ℕ → List Group → List Made
made_after number [] = []
made_after number (group ∷ groups) = made_at (record { 0 = number }) group ++ made_after (suc number) groups

-- what has a bound, in the order of groups and of their properties
abbrev pub all_made : List Group → List Made
all_made groups = made_after 0 groups

-- ---- too high

-- a bound exceeds a number: unreachable exceeds each
abbrev pub Exceeds : Option ℕ → ℕ → Type 0
Exceeds None limit = ⊤
Exceeds (Some bound) limit = limit < bound

module _ (groups : List Group) (costs : Costs) (bounds : Bound) where
  -- some way to make these rows is allowed this, and none less
  pub record IsLeastSum (made : Made) (limit : ℕ) : Type 0 where
    pub group : Group
    pub there : slice_get groups made.group.0 ≡ Some group
    pub way : Way
    pub allowed : is_way group made.prop way ≡ true
    pub sum : sum_of costs bounds made.group way ≡ Some limit
    pub least : IsUnder groups costs bounds made (Some limit)

  -- a bound that does not exceed what is allowed to any way
  abbrev pub IsFine : Made → Type 0
  IsFine made = IsUnder groups costs bounds made (bounds made)

  -- the first of these, in their order, whose bound exceeds the least sum of its ways, with the two numbers
  pub record IsFirstTooHigh (all : List Made) (high : TooHigh) : Type 0 where
    pub before : List Made
    pub after : List Made
    pub order : all ≡ before ++ high.made ∷ after
    pub fine : AllByRecursion IsFine before
    pub bound : bounds high.made ≡ high.bound
    pub limit : IsLeastSum high.made high.limit
    pub exceeds : Exceeds high.bound high.limit

  -- none of these is too high, or it is the first
  abbrev pub IsSearched : List Made → Option TooHigh → Type 0
  IsSearched all None = AllByRecursion IsFine all
  IsSearched all (Some high) = IsFirstTooHigh all high
