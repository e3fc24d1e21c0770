-- Among the properties of the root there is one that costs least.
use Rattle.std.proofs.Common.{◌≡◌, ◌<◌, ◌-◌, ℕ, zero, suc, Bool, true, false, ◌⊎◌, inl, inr, List, [], ◌∷◌, fold, length, get_or, nat_lt, Option, Some, None, refl, sym, ◌∙◌, arith, if◌then◌else◌}
use Rattle.std.specs.List.{slice_get}
use Rattle.std.specs.Option.{IsSome}
use Rattle.pdw_enum.proofs.LeastPlans.{cheapest-is, shape-at, shape-count, some-bound, some-groups}
use Rattle.pdw_enum.proofs.Places.{cheapest-there}
use Rattle.pdw_enum.specs.Root.{IsCheapest, IsRooted, root_of}
use Rattle.pdw_groups.specs.declared.group.Group.{Group}
use Rattle.pdw_least.specs.Reached.{IsReached}
use Rattle.pdw_move.specs.declared.kinds.Prop.{Prop}
use Rattle.pdw_move.specs.declared.kinds.Prop.TheVariants.{Spread}
use Rattle.pdw_rules.specs.Rules.{properties_of}
use Rattle.pdw_ways.proofs.Same.{never}
use Rattle.pdw_ways.specs.Bounds.{HaveShape, bound_by, bound_in, least_in, lesser}
use Rattle.pdw_ways.specs.declared.made.Made.{Made}

pub some-at : {X : Type 0} (xs : List X) (place : ℕ) → place < length xs → (x : X) × (slice_get xs place ≡ Some x)
some-at [] place small = absurd (omega arith)
some-at (x ∷ xs) zero small = (x, refl)
some-at (x ∷ xs) (suc place) small = some-at xs place (omega arith)

some-number : (bound : Option ℕ) → IsSome bound → (number : ℕ) × (bound ≡ Some number)
some-number None some = never some
some-number (Some number) some = (number, refl)

-- ---- the least of a list stands in it

lesser-either : (first second : Option ℕ) (cost : ℕ) → lesser first second ≡ Some cost → (first ≡ Some cost) ⊎ (second ≡ Some cost)
lesser-either None second cost is = inr is
lesser-either (Some first) None cost is = inl is
lesser-either (Some first) (Some second) cost is = by (nat_lt second first) is
  where
    by : (test : Bool) → (if test then Some second else Some first) ≡ Some cost → (Some first ≡ Some cost) ⊎ (Some second ≡ Some cost)
    by true found = inr found
    by false found = inl found

abbrev StandsIn : List (Option ℕ) → ℕ → Type 0
StandsIn bounds cost = (place : ℕ) × (slice_get bounds place ≡ Some (Some cost))

least-from : (start : Option ℕ) (bounds : List (Option ℕ)) (cost : ℕ) → fold lesser start bounds ≡ Some cost → (start ≡ Some cost) ⊎ StandsIn bounds cost
least-from start [] cost is = inl is
least-from start (bound ∷ bounds) cost is = by (least-from (lesser start bound) bounds cost is)
  where
    first : (start ≡ Some cost) ⊎ (bound ≡ Some cost) → (start ≡ Some cost) ⊎ StandsIn (bound ∷ bounds) cost
    first (inl before) = inl before
    first (inr here) = inr (0, (λ k. Some (here k)))

    by : (lesser start bound ≡ Some cost) ⊎ StandsIn bounds cost → (start ≡ Some cost) ⊎ StandsIn (bound ∷ bounds) cost
    by (inl now) = first (lesser-either start bound cost now)
    by (inr later) = inr (suc later.0, later.1)

abbrev unreached : Option ℕ
unreached = None

least-there : (bounds : List (Option ℕ)) (cost : ℕ) → least_in bounds ≡ Some cost → StandsIn bounds cost
least-there bounds cost is = by (least-from unreached bounds cost is)
  where
    by : (unreached ≡ Some cost) ⊎ StandsIn bounds cost → StandsIn bounds cost
    by (inl none) = absurd (cc)
    by (inr there) = there

-- ---- the root

pub record HasCheapest (groups : List Group) (lists : List (List (Option ℕ))) : Type 0 where
  pub made : Made
  pub is : IsCheapest groups lists made

module _ (groups : List Group) (lists : List (List (Option ℕ))) (shape : HaveShape groups lists) (rooted : IsRooted groups) where
  root-list : (list : List (Option ℕ)) × (slice_get lists (length groups - 1) ≡ Some list)
  root-list =
      let count = shape-count groups lists shape in
      let some = some-groups groups rooted in
      some-at lists (length groups - 1) (omega (arith, count, some))

  pub cheapest : IsReached (bound_in groups lists) (root_of groups) → HasCheapest groups lists
  cheapest reached =
      let list : List (Option ℕ) = root-list.0 in
      let there : slice_get lists (length groups - 1) ≡ Some list = root-list.1 in
      let some : IsSome (least_in list) = some-bound groups lists (root_of groups) rooted.root list rooted.there there reached in
      let least = some-number (least_in list) some in
      let stands = least-there list least.0 least.1 in
      let p : Prop = get_or (properties_of rooted.root.interesting) stands.0 Spread in
      let size : length list ≡ length (properties_of rooted.root.interesting) = shape-at groups lists shape (length groups - 1) rooted.root list rooted.there there in
      let is : bound_by rooted.root.interesting list p ≡ Some least.0 = cheapest-there rooted.root.interesting rooted.different list size stands.0 Spread least.0 stands.1 in
      record {
        made = record { group = root_of groups; prop = p };
        is = cheapest-is groups lists (root_of groups) rooted.root list rooted.there there refl p (is ∙ sym least.1) some;
      }
