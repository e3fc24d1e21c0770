-- Where each bound that is a number is below the limit, so is each number in the lists of bounds, and the least of the root's.
use Rattle.std.proofs.Common.{◌≡◌, ◌<◌, ◌^◌, ℕ, zero, suc, Bool, true, false, cond, List, [], ◌∷◌, fold, length, get_or, nat_lt, Option, Some, None, refl, subst, ◌∙◌, arith}
use Rattle.std.specs.List.{AllByRecursion, slice_get}
use Rattle.std.specs.Option.{option_and_then}
use Rattle.std.proofs.lemmas.Option.{slice_get-get_or, slice_get_within}
use Rattle.pdw_enum.proofs.LeastPlans.{bound-of}
use Rattle.pdw_enum.proofs.Places.{bound-there}
use Rattle.pdw_enum.specs.Root.{AreDifferent, least_of_root, root_of}
use Rattle.pdw_groups.specs.declared.group.Group.{Group}
use Rattle.pdw_memo.proofs.EachGroup.{all-at, some-same}
use Rattle.pdw_move.specs.declared.kinds.Prop.TheVariants as prop
use Rattle.pdw_planjson.specs.Limits.{IsBound}
use Rattle.pdw_rules.specs.Rules.{properties_of}
use Rattle.pdw_ways.specs.Bounds.{HaveShape, bound_by, bound_in, least_in, lesser}
use Rattle.pdw_ways.specs.declared.made.Made.{Made}

all-from : {X : Type 0} (P : X → Type 0) (xs : List X) → ((place : ℕ) (x : X) → slice_get xs place ≡ Some x → P x) → AllByRecursion P xs
all-from P [] each = tt
all-from P (x ∷ xs) each = (each 0 x refl, all-from P xs (λ place y there. each (suc place) y there))

-- ---- each list is that of a group

pub record IsListOf (groups : List Group) (number : ℕ) (list : List (Option ℕ)) : Type 0 where
  pub group : Group
  pub there : slice_get groups number ≡ Some group
  pub size : length list ≡ length (properties_of group.interesting)

list-group : (groups : List Group) (lists : List (List (Option ℕ))) → HaveShape groups lists → (number : ℕ) (list : List (Option ℕ)) → slice_get lists number ≡ Some list → IsListOf groups number list
list-group [] [] shape number list is = absurd (omega (arith, slice_get_within [] number list is))
list-group [] (first ∷ lists) shape number list is = absurd shape
list-group (group ∷ groups) [] shape number list is = absurd shape
list-group (group ∷ groups) (first ∷ lists) shape zero list is =
    record { group = group; there = refl; size = subst (λ (l : List (Option ℕ)). length l ≡ length (properties_of group.interesting)) (some-same first list is) shape.0 }
list-group (group ∷ groups) (first ∷ lists) shape (suc number) list is =
    let rest = list-group groups lists shape.1 number list is in
    record { group = rest.group; there = rest.there; size = rest.size }

-- ---- each bound in it is one of the group's properties

bound-small : (bound : Option ℕ) → ((number : ℕ) → bound ≡ Some number → number < 10 ^ 32) → IsBound bound
bound-small None small = tt
bound-small (Some number) small = small number refl

module _ (groups : List Group) (lists : List (List (Option ℕ))) (shape : HaveShape groups lists) (different : (number : ℕ) (group : Group) → slice_get groups number ≡ Some group → AreDifferent group.interesting)
    (small : (made : Made) (number : ℕ) → bound_in groups lists made ≡ Some number → number < 10 ^ 32) where
  entry-small : (number : ℕ) (list : List (Option ℕ)) → slice_get lists number ≡ Some list → (place : ℕ) (bound : Option ℕ) → slice_get list place ≡ Some bound → IsBound bound
  entry-small number list there place bound is =
      let of = list-group groups lists shape number list there in
      let size = of.size in
      let inside = slice_get_within list place bound is in
      let properties = properties_of of.group.interesting in
      let p = get_or properties place prop.Spread in
      let here : bound_by of.group.interesting list p ≡ bound =
      bound-there of.group.interesting (different number of.group of.there) list place p bound (slice_get-get_or properties place prop.Spread (omega (arith, size, inside))) is in
      let at : bound_in groups lists (record { group = record { 0 = number }; prop = p }) ≡ bound = bound-of groups lists (record { 0 = number }) of.group list of.there there p ∙ here in
      bound-small bound (λ cost same. small (record { group = record { 0 = number }; prop = p }) cost (at ∙ same))

  pub lists-small : AllByRecursion (AllByRecursion IsBound) lists
  lists-small = all-from (AllByRecursion IsBound) lists (λ number list there. all-from IsBound list (entry-small number list there))

-- ---- the least of a list

lesser-small : (first second : Option ℕ) → IsBound first → IsBound second → IsBound (lesser first second)
lesser-small None second few small = small
lesser-small (Some first) None few small = few
lesser-small (Some first) (Some second) few small = by (nat_lt second first)
  where
    by : (test : Bool) → IsBound (cond test (Some second) (Some first))
    by true = small
    by false = few

least-from : (start : Option ℕ) (bounds : List (Option ℕ)) → IsBound start → AllByRecursion IsBound bounds → IsBound (fold lesser start bounds)
least-from start [] few all = few
least-from start (bound ∷ bounds) few all = least-from (lesser start bound) bounds (lesser-small start bound few all.0) all.1

pub root-small : (groups : List Group) (lists : List (List (Option ℕ))) → AllByRecursion (AllByRecursion IsBound) lists → IsBound (least_of_root groups lists)
root-small groups lists all = by (slice_get lists (root_of groups).0) refl
  where
    by : (list : Option (List (Option ℕ))) → slice_get lists (root_of groups).0 ≡ list → IsBound (option_and_then least_in list)
    by None there = tt
    by (Some list) there = least-from None list tt (all-at (AllByRecursion IsBound) lists all (root_of groups).0 list there)
