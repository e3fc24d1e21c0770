-- Valid bounds that plans cost are least, and tight ones leave no cheaper plan.
use Rattle.std.proofs.Common.{◌≡◌, ℕ, Bool, true, false, List, [], ◌∷◌, zip, Option, Some, None, refl, sym, subst, arith, fold, cond, nat_lt, if◌then◌else◌}
use Rattle.std.proofs.lemmas.Bool.{ltb-true, ltb-false}
use Rattle.std.specs.List.{slice_get}
use Rattle.std.specs.Map.{lookup}
use Rattle.std.specs.Option.{IfSome, option_and_then}
use Rattle.pdw_groups.specs.declared.group.Group.{Group}
use Rattle.pdw_groups.specs.declared.key.GroupId.{GroupId}
use Rattle.pdw_rules.specs.Rules.{is_same, properties_of}
use Rattle.pdw_ways.proofs.Numbers.{at_most-refl, at_most-trans}
use Rattle.pdw_ways.proofs.Under.{under-plans}
use Rattle.pdw_ways.specs.Bounds.{AreLeast, AreValid, AtMost, Bound, IsLeast, NoneCheaper, bound_among, bound_in, cost_of_plan, least_in, lesser}
use Rattle.pdw_ways.specs.Shape.{HasPlan, IsPlan}
use Rattle.pdw_ways.specs.Ways.{Costs}
use Rattle.pdw_ways.specs.declared.made.Made.{Made}
use Rattle.pdw_ways.specs.declared.plan.Plan.{Plan}

-- ---- least costs

module _ (groups : List Group) (costs : Costs) where
  least-at : (made : Made) (bound : Option ℕ) → ((plan : Plan) → IsPlan groups costs plan made → AtMost bound (Some (cost_of_plan groups costs plan))) → IfSome bound (HasPlan groups costs made) → IsLeast groups costs made bound
  least-at made None under attained = λ plan is. under plan is
  least-at made (Some least) under attained = ((attained.tree, (attained.is, attained.total)), λ plan is. under plan is)

pub least-costs : (groups : List Group) (costs : Costs) (bound : Bound) → AreValid groups costs bound → ((made : Made) → IfSome (bound made) (HasPlan groups costs made)) → AreLeast groups costs bound
least-costs groups costs bound valid attained made = least-at groups costs made (bound made) (λ plan is. under-plans groups costs bound valid plan made is) (attained made)

-- ---- the least of a list

lesser-first : (first second : Option ℕ) → AtMost (lesser first second) first
lesser-first None second = tt
lesser-first (Some first) None = omega arith
lesser-first (Some first) (Some second) = by (nat_lt second first) refl
  where
    by : (test : Bool) → nat_lt second first ≡ test → AtMost (if test then Some second else Some first) (Some first)
    by true is = omega (arith, ltb-true second first is)
    by false is = omega arith

lesser-second : (first second : Option ℕ) → AtMost (lesser first second) second
lesser-second None second = at_most-refl second
lesser-second (Some first) None = tt
lesser-second (Some first) (Some second) = by (nat_lt second first) refl
  where
    by : (test : Bool) → nat_lt second first ≡ test → AtMost (if test then Some second else Some first) (Some second)
    by true is = omega arith
    by false is = omega (arith, ltb-false second first is)

falls : (start : Option ℕ) (bounds : List (Option ℕ)) → AtMost (fold lesser start bounds) start
falls start [] = at_most-refl start
falls start (bound ∷ bounds) = at_most-trans (fold lesser (lesser start bound) bounds) (lesser start bound) start (falls (lesser start bound) bounds) (lesser-first start bound)

-- the least is at most what is found under a key
least-found : {K : Type 0} (test : K → Bool) (keys : List K) (start : Option ℕ) (bounds : List (Option ℕ)) → AtMost (fold lesser start bounds) (option_and_then (λ bound. bound) (lookup test (zip keys bounds)))
least-found test [] start bounds = tt
least-found test (key ∷ keys) start [] = tt
least-found test (key ∷ keys) start (bound ∷ bounds) = by (test key) (least-found test keys (lesser start bound) bounds)
  where
    by : (passes : Bool) → AtMost (fold lesser (lesser start bound) bounds) (option_and_then (λ b. b) (lookup test (zip keys bounds))) → AtMost (fold lesser (lesser start bound) bounds) (option_and_then (λ b. b) (cond passes (Some bound) (lookup test (zip keys bounds))))
    by true behind = at_most-trans (fold lesser (lesser start bound) bounds) (lesser start bound) bound (falls (lesser start bound) bounds) (lesser-second start bound)
    by false behind = behind

pub none-cheaper : (groups : List Group) (costs : Costs) (lists : List (List (Option ℕ))) → AreValid groups costs (bound_in groups lists) → (group : GroupId) (list : List (Option ℕ)) (cost : ℕ) → slice_get lists group.0 ≡ Some list → least_in list ≡ Some cost → NoneCheaper groups costs group cost
none-cheaper groups costs lists valid group list cost there tight plan prop is =
    let made : Made = record { group = group; prop = prop } in
    at_most-trans (Some cost) (bound_in groups lists made) (Some (cost_of_plan groups costs plan)) (least (slice_get groups group.0)) (under-plans groups costs (bound_in groups lists) valid plan made is)
  where
    least : (of : Option Group) → AtMost (Some cost) (bound_among prop of (slice_get lists group.0))
    least None = tt
    least (Some of) = subst (λ found. AtMost (Some cost) (bound_among prop (Some of) found)) (sym there) (subst (λ bound. AtMost bound (bound_among prop (Some of) (Some list))) tight (least-found (is_same prop) (properties_of of.interesting) None list))
