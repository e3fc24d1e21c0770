-- There is a verdict on each plan with a written cost and bounds.
use Rattle.std.proofs.Common.{◌≡◌, ◌≢◌, ◌==◌, ◌+◌, ◌<◌, ◌≤◌, ℕ, zero, suc, Bool, true, false, ◌⊎◌, inl, inr, List, [], ◌∷◌, length, map, nat_lt, Option, Some, None, Result, Ok, Err, refl, sym, subst, ◌∙◌, arith}
use Rattle.std.proofs.lemmas.Bool.{eqb-false, eqb-true, ltb-false, ltb-true}
use Rattle.std.specs.List.{AllByRecursion, slice_get}
use Rattle.pdw_cert.proofs.Searches.{all-append, searched-behind, searched-fine, searched-here, searched-high, searched-never}
use Rattle.pdw_cert.proofs.ShapeLemmas.{shape-of-none}
use Rattle.pdw_cert.proofs.Validity.{valid-of-fine}
use Rattle.pdw_cert.specs.Shape.{first_misshapen, least_of_root}
use Rattle.pdw_cert.specs.TooHigh.{Exceeds, IsSearched, all_made, made_after, made_at}
use Rattle.pdw_cert.specs.Verdict.{IsBounded, IsForQuery, IsPriced, IsShaped, IsVerdict}
use Rattle.pdw_groups.specs.declared.group.Group.{Group}
use Rattle.pdw_groups.specs.declared.key.GroupId.{GroupId}
use Rattle.pdw_move.specs.declared.kinds.Prop.{Prop}
use Rattle.pdw_rules.specs.Rules.{properties_of}
use Rattle.pdw_ways.proofs.LeastOffers.{least-with, least-without}
use Rattle.pdw_ways.specs.Bounds.{AtMost, bound_in, cost_of_plan, sum_of}
use Rattle.pdw_ways.specs.Offers.{Best, IsWay}
use Rattle.pdw_ways.specs.Search.{cheaper, inner_within, local_within}
use Rattle.pdw_ways.specs.Shape.{query_fault, shape_of}
use Rattle.pdw_ways.specs.Ways.{Costs}
use Rattle.pdw_ways.specs.declared.made.Made.{Made}
use Rattle.pdw_ways.specs.declared.offer.Offer.{Offer}
use Rattle.pdw_ways.specs.declared.plan.CheckFault.{CheckFault}
use Rattle.pdw_ways.specs.declared.plan.CheckFault.TheVariants as fault
use Rattle.pdw_ways.specs.declared.plan.Plan.{Plan}

some-same : {X : Type 0} (a b : X) → Some a ≡ Some b → a ≡ b
some-same a b same = cc

-- ---- what is decided

same-number : (a b : ℕ) → (a ≡ b) ⊎ (a ≢ b)
same-number a b = by (a == b) refl
  where
    by : (test : Bool) → (a == b) ≡ test → (a ≡ b) ⊎ (a ≢ b)
    by true is = inl (eqb-true a b is)
    by false is = inr (eqb-false a b is)

same-bound : (bound : Option ℕ) (cost : ℕ) → (bound ≡ Some cost) ⊎ (bound ≢ Some cost)
same-bound None cost = inr (λ wrong. cc)
same-bound (Some bound) cost = by (same-number bound cost)
  where
    by : (bound ≡ cost) ⊎ (bound ≢ cost) → (Some bound ≡ Some cost) ⊎ (Some bound ≢ Some cost)
    by (inl is) = inl (λ k. Some (is k))
    by (inr other) = inr (λ same. other (some-same bound cost same))

within-or-not : (bound : Option ℕ) (limit : ℕ) → AtMost bound (Some limit) ⊎ Exceeds bound limit
within-or-not None limit = inr tt
within-or-not (Some bound) limit = by (nat_lt limit bound) refl
  where
    by : (test : Bool) → nat_lt limit bound ≡ test → AtMost (Some bound) (Some limit) ⊎ Exceeds (Some bound) limit
    by true is = inr (ltb-true limit bound is)
    by false is = let not = ltb-false limit bound is in inl (omega (arith, not))

-- ---- a search for the first bound that is too high

module _ (groups : List Group) (costs : Costs) (lists : List (List (Option ℕ))) where
  abbrev pub AllFine : List Made → Type 0
  AllFine all = IsSearched groups costs (bound_in groups lists) all None

  -- a first of these that is too high, with its numbers
  pub record HasHigh (all : List Made) : Type 0 where
    pub made : Made
    pub bound : Option ℕ
    pub limit : ℕ
    pub is : IsSearched groups costs (bound_in groups lists) all (Some (record { made = made; bound = bound; limit = limit }))

  abbrev pub IsDecided : List Made → Type 0
  IsDecided all = AllFine all ⊎ HasHigh all

  abbrev Known : Made → Type 0
  Known made = made.group.0 < length groups

  -- the cheapest way to make these rows by the bounds
  record HasCheapest (made : Made) : Type 0 where
    offer : Option Offer
    best : (group : Group) → slice_get groups made.group.0 ≡ Some group → Best (IsWay group made.prop) (sum_of costs (bound_in groups lists) made.group) offer

  group-same : (number : ℕ) (a b : Group) → slice_get groups number ≡ Some a → slice_get groups number ≡ Some b → a ≡ b
  group-same number a b first second = some-same a b (sym first ∙ second)

  group-at : (xs : List Group) (number : ℕ) → number < length xs → (group : Group) × (slice_get xs number ≡ Some group)
  group-at [] number within = absurd (omega arith)
  group-at (group ∷ xs) zero within = (group, refl)
  group-at (group ∷ xs) (suc number) within = group-at xs number (omega arith)

  cheapest : (made : Made) → Known made → HasCheapest made
  cheapest made known = by (slice_get lists made.group.0) refl
    where
      there : (group : Group) × (slice_get groups made.group.0 ≡ Some group)
      there = group-at groups made.group.0 known

      of : (offer : Option Offer) → Best (IsWay there.0 made.prop) (sum_of costs (bound_in groups lists) made.group) offer → HasCheapest made
      of offer best = record {
        offer = offer;
        best = λ group is. subst (λ (g : Group). Best (IsWay g made.prop) (sum_of costs (bound_in groups lists) made.group) offer) (group-same made.group.0 there.0 group there.1 is) best;
      }

      by : (list : Option (List (Option ℕ))) → slice_get lists made.group.0 ≡ list → HasCheapest made
      by None none = of (local_within (bound_in groups lists) groups there.0 made.prop) (least-without groups lists costs made.group there.0 there.1 made.prop none)
      by (Some list) kept =
          of (cheaper (local_within (bound_in groups lists) groups there.0 made.prop) (inner_within there.0 list (costs made.group) made.prop))
          (least-with groups lists costs made.group there.0 there.1 made.prop (costs made.group) (λ move. refl) list kept)

  search-one : (made : Made) → Known made → IsDecided (made ∷ [])
  search-one made known = by cheap.offer refl
    where
      cheap : HasCheapest made
      cheap = cheapest made known

      bound : Option ℕ
      bound = bound_in groups lists made

      against : (offer : Offer) → cheap.offer ≡ Some offer → AtMost bound (Some offer.cost) ⊎ Exceeds bound offer.cost → IsDecided (made ∷ [])
      against offer is (inl within) =
          inl (searched-fine groups costs (bound_in groups lists) made offer (λ group at. subst (Best (IsWay group made.prop) (sum_of costs (bound_in groups lists) made.group)) is (cheap.best group at)) bound refl within)
      against offer is (inr exceeds) = inr (record {
        made = made;
        bound = bound;
        limit = offer.cost;
        is = searched-high groups costs (bound_in groups lists) made offer (λ group at. subst (Best (IsWay group made.prop) (sum_of costs (bound_in groups lists) made.group)) is (cheap.best group at)) bound refl known exceeds;
      })

      by : (offer : Option Offer) → cheap.offer ≡ offer → IsDecided (made ∷ [])
      by None is = inl (searched-never groups costs (bound_in groups lists) made (λ group at. subst (Best (IsWay group made.prop) (sum_of costs (bound_in groups lists) made.group)) is (cheap.best group at)))
      by (Some offer) is = against offer is (within-or-not bound offer.cost)

  search-all : (all : List Made) → AllByRecursion Known all → IsDecided all
  search-all [] known = inl tt
  search-all (made ∷ rest) known = by (search-one made known.0) (search-all rest known.1)
    where
      by : IsDecided (made ∷ []) → IsDecided rest → IsDecided (made ∷ rest)
      by (inr high) later = inr (record {
        made = high.made;
        bound = high.bound;
        limit = high.limit;
        is = searched-here groups costs (bound_in groups lists) (made ∷ []) rest (record { made = high.made; bound = high.bound; limit = high.limit }) high.is;
      })
      by (inl fine) (inl more) = inl (searched-behind groups costs (bound_in groups lists) (made ∷ []) rest fine None more)
      by (inl fine) (inr high) = inr (record {
        made = high.made;
        bound = high.bound;
        limit = high.limit;
        is = searched-behind groups costs (bound_in groups lists) (made ∷ []) rest fine (Some (record { made = high.made; bound = high.bound; limit = high.limit })) high.is;
      })

  -- each of these has a group
  props-known : (number : GroupId) → number.0 < length groups → (props : List Prop) → AllByRecursion Known (map (λ (prop : Prop). let made : Made = record { group = number; prop = prop } in made) props)
  props-known number known [] = tt
  props-known number known (prop ∷ props) = (known, props-known number known props)

  groups-known : (number : ℕ) (left : List Group) → number + length left ≤ length groups → AllByRecursion Known (made_after number left)
  groups-known number [] within = tt
  groups-known number (group ∷ left) within =
      all-append Known (made_at (record { 0 = number }) group) (made_after (suc number) left) (props-known (record { 0 = number }) (omega arith) (properties_of group.interesting)) (groups-known (suc number) left (omega arith))

  pub searched : IsDecided (all_made groups)
  searched = search-all (all_made groups) (groups-known 0 groups (omega arith))

-- ---- the verdict, fault by fault

module _ (groups : List Group) (costs : Costs) (plan : Plan) (written : ℕ) (lists : List (List (Option ℕ))) where
  pub record HasVerdictOnPlan : Type 0 where
    pub found : Result ℕ CheckFault
    pub is : IsVerdict groups costs plan written lists found

  of-root : IsBounded groups costs plan written lists → HasVerdictOnPlan
  of-root bounded = by (same-bound (least_of_root groups lists) written)
    where
      by : (least_of_root groups lists ≡ Some written) ⊎ (least_of_root groups lists ≢ Some written) → HasVerdictOnPlan
      by (inl tight) = record { found = Ok written; is = (bounded, (refl, tight)) }
      by (inr loose) = record { found = Err (fault.NotTight written (least_of_root groups lists)); is = (bounded, (refl, (refl, loose))) }

  of-bounds : IsShaped groups costs plan written lists → HasVerdictOnPlan
  of-bounds shaped = by (searched groups costs lists)
    where
      by : IsDecided groups costs lists (all_made groups) → HasVerdictOnPlan
      by (inl fine) = of-root (shaped, valid-of-fine groups costs (bound_in groups lists) fine)
      by (inr high) = record { found = Err (fault.BoundTooHigh high.made.group.0 high.made.prop high.bound high.limit); is = (shaped, high.is) }

  of-lists : IsPriced groups costs plan written lists → HasVerdictOnPlan
  of-lists priced = by (first_misshapen groups lists) refl
    where
      by : (found : Option ℕ) → first_misshapen groups lists ≡ found → HasVerdictOnPlan
      by None none = of-bounds (priced, shape-of-none groups lists none)
      by (Some group) is = record { found = Err (fault.BoundShape group); is = (priced, is) }

  of-cost : IsForQuery groups costs plan written lists → HasVerdictOnPlan
  of-cost query = by (same-number (cost_of_plan groups costs plan) written)
    where
      by : (cost_of_plan groups costs plan ≡ written) ⊎ (cost_of_plan groups costs plan ≢ written) → HasVerdictOnPlan
      by (inl same) = of-lists (query, same)
      by (inr other) = record { found = Err (fault.WrongCost written (cost_of_plan groups costs plan)); is = (query, (refl, (refl, other))) }

  pub plan-verdict : HasVerdictOnPlan
  plan-verdict = by (query_fault groups (shape_of groups costs plan)) refl
    where
      by : (found : Option ℕ) → query_fault groups (shape_of groups costs plan) ≡ found → HasVerdictOnPlan
      by None none = of-cost none
      by (Some node) is = record { found = Err (fault.PlanShape node); is = is }
