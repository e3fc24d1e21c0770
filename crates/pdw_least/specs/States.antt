-- What is known while least costs are searched for: of the groups that are done, and of the group at hand.
use Rattle.std.specs.Prelude.{◌≡◌, ◌==◌, ◌≤◌, ◌<◌, ◌+◌, ◌*◌, ◌^◌, nat_lt, ℕ, Bool, true, false, List, [], ◌∷◌, ◌++◌, length, map, take, Option, Some, None, if◌then◌else◌}
use Rattle.std.specs.List.{AllByRecursion, slice_set, sum_by}
use Rattle.pdw_base.specs.declared.schema.ColId.{ColId}
use Rattle.pdw_groups.specs.declared.group.Group.{Group}
use Rattle.pdw_groups.specs.declared.key.GroupId.{GroupId}
use Rattle.pdw_move.specs.declared.kinds.Prop.{Prop}
use Rattle.pdw_move.specs.declared.kinds.Prop.TheVariants as prop
use Rattle.pdw_rules.specs.Rules.{is_same, properties_of}
use Rattle.pdw_ways.specs.Bounds.{AtMost, HaveShape, IsUnder, bound_by, bound_in, place_among, sum_of}
use Rattle.pdw_ways.specs.Costing.{most_of_a_move}
use Rattle.pdw_ways.specs.Offers.{IsInnerWay, IsLocalWay}
use Rattle.pdw_ways.specs.Ways.{Costs}
use Rattle.pdw_ways.specs.declared.made.Made.{Made}
use Rattle.pdw_ways.specs.declared.offer.Offer.{Offer}
use Rattle.pdw_ways.specs.declared.way.Way.{Way}
use Rattle.pdw_least.specs.Log.{IsLog, bounds_after}
use Rattle.pdw_least.specs.Premises.{AreLight, AreWithin, IsWithin, limit_of_operators}
use Rattle.pdw_least.specs.declared.entry.Entry.{Entry}

-- ---- a fall

abbrev pub is_lower : ℕ → Option ℕ → Bool
is_lower cost None = true
is_lower cost (Some bound) = nat_lt cost bound

abbrev pub falls : Option Offer → Option ℕ → Bool
falls None bound = false
falls (Some offer) bound = is_lower offer.cost bound

abbrev pub lowered_log : Made → Option Offer → Option ℕ → List Entry → List Entry
lowered_log made None bound log = log
lowered_log made (Some offer) bound log = if is_lower offer.cost bound then log ++ record { made = made; way = offer.way; cost = offer.cost } ∷ [] else log

abbrev pub put_at : Option ℕ → ℕ → List (Option ℕ) → List (Option ℕ)
put_at None cost row = row
put_at (Some place) cost row = slice_set row place (Some cost)

abbrev pub lowered_row : List ColId → Prop → Option Offer → List (Option ℕ) → List (Option ℕ)
lowered_row interesting p None row = row
lowered_row interesting p (Some offer) row = if is_lower offer.cost (bound_by interesting row p) then put_at (place_among (is_same p) (properties_of interesting)) offer.cost row else row

-- what a row may still fall by
abbrev pub worth_of : Option ℕ → ℕ
worth_of None = 2 ^ 128
worth_of (Some bound) = bound

abbrev pub worth : List (Option ℕ) → ℕ
worth row = sum_by worth_of row

abbrev pub IsLess : Bool → ℕ → ℕ → Type 0
IsLess true new old = new < old
IsLess false new old = new ≤ old

-- nothing is reachable at first
abbrev pub blank_row : List Prop → List (Option ℕ)
blank_row props = map (λ (p : Prop). let unreached : Option ℕ = None in unreached) props

-- ---- the group at hand

-- how many are reachable of the properties that moves start from
abbrev pub one : Option ℕ → ℕ
one None = 0
one (Some bound) = 1

abbrev pub reached : (Prop → Option ℕ) → ℕ
reached bound = one (bound prop.Spread) + one (bound prop.Replicated) + one (bound prop.Single) + one (bound prop.Control)

abbrev pub beyond : Prop → ℕ
beyond prop.Spread = 0
beyond (prop.Hash c) = 1
beyond prop.Replicated = 0
beyond prop.Single = 0
beyond prop.Control = 0

-- each bound is at most a move for each of these above what operators make
abbrev pub HasRoom : ℕ → (Prop → Option ℕ) → Type 0
HasRoom limit bound = (p : Prop) → IsWithin (limit + most_of_a_move * (reached bound + beyond p)) (bound p)

abbrev pub IsUnderWays : (Way → Type 0) → (Way → Option ℕ) → Option ℕ → Type 0
IsUnderWays Is sum limit = (way : Way) → Is way → AtMost limit (sum way)

module _ (groups : List Group) (costs : Costs) (lists : List (List (Option ℕ))) (number : GroupId) (group : Group) where
  abbrev pub bound_here : List Entry → Prop → Option ℕ
  bound_here log p = bounds_after log (record { group = number; prop = p })

  -- the row of the group at hand and the lists of those before it have the bounds of the log
  pub record IsWorking (row : List (Option ℕ)) (log : List Entry) : Type 0 where
    pub is_log : IsLog groups costs log
    pub mine : (p : Prop) → bound_by group.interesting row p ≡ bound_here log p
    pub elsewhere : (made : Made) → (made.group.0 == number.0) ≡ false → bound_in groups lists made ≡ bounds_after log made
    pub size : length row ≡ length (properties_of group.interesting)

  abbrev pub AreUnderLocal : List Prop → List Entry → Type 0
  AreUnderLocal props log = AllByRecursion (λ (p : Prop). IsUnderWays (IsLocalWay group p) (sum_of costs (bound_in groups lists) number) (bound_here log p)) props

  abbrev pub AreUnderInner : List Prop → List Entry → Type 0
  AreUnderInner props log = AllByRecursion (λ (p : Prop). IsUnderWays (IsInnerWay group p) (sum_of costs (bounds_after log) number) (bound_here log p)) props

  -- operators are looked at for these properties
  pub record IsLocalDone (done : List Prop) (row : List (Option ℕ)) (log : List Entry) : Type 0 where
    pub working : IsWorking row log
    pub room : (light : AreLight groups) (p : Prop) → IsWithin (limit_of_operators (light.weight number.0)) (bound_here log p)
    pub under : AreUnderLocal done log

  -- operators are looked at for all of these, and moves and free changes go on
  pub record IsInnerGoing (props : List Prop) (row : List (Option ℕ)) (log : List Entry) : Type 0 where
    pub working : IsWorking row log
    pub room : (light : AreLight groups) → HasRoom (limit_of_operators (light.weight number.0)) (bound_here log)
    pub under : AreUnderLocal props log

  -- a pass of moves and free changes has looked at these; where nothing fell, all is as it was at its start
  pub record IsPassing (props : List Prop) (start : List Entry) (before : List (Option ℕ)) (done : List Prop) (fell : Bool) (row : List (Option ℕ)) (log : List Entry) : Type 0 where
    pub going : IsInnerGoing props row log
    pub still : fell ≡ false → (log ≡ start) × AreUnderInner done log
    pub less : IsLess fell (worth row) (worth before)

-- ---- the groups that are done

module _ (groups : List Group) (costs : Costs) where
  pub record IsTable (lists : List (List (Option ℕ))) (log : List Entry) : Type 0 where
    pub is_log : IsLog groups costs log
    pub kept : (made : Made) → bound_in groups lists made ≡ bounds_after log made
    pub shape : HaveShape (take (length lists) groups) lists
    pub valid : (made : Made) → made.group.0 < length lists → IsUnder groups costs (bound_in groups lists) made (bound_in groups lists made)
    pub within : AreWithin groups (bound_in groups lists)
