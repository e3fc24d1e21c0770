-- The verdict on a plan, its written cost and its bounds: accepted, or the first fault in the order of the faults.
use Rattle.std.specs.Prelude.{◌≡◌, ◌≢◌, ℕ, List, Option, Some, None, Result, MatchResult}
use Rattle.pdw_groups.specs.declared.group.Group.{Group}
use Rattle.pdw_ways.specs.Bounds.{AreValid, HaveShape, bound_in, cost_of_plan}
use Rattle.pdw_ways.specs.Shape.{query_fault, shape_of}
use Rattle.pdw_ways.specs.Ways.{Costs}
use Rattle.pdw_ways.specs.declared.plan.CheckFault.{CheckFault}
use Rattle.pdw_ways.specs.declared.plan.CheckFault.TheVariants as fault
use Rattle.pdw_ways.specs.declared.plan.Plan.{Plan}
use Rattle.pdw_cert.specs.Shape.{first_misshapen, least_of_root}
use Rattle.pdw_cert.specs.TooHigh.{IsFirstTooHigh, all_made}

module _ (groups : List Group) (costs : Costs) (plan : Plan) (written : ℕ) (lists : List (List (Option ℕ))) where
  -- ---- what is looked at, in this order

  -- the plan is one for the query
  abbrev pub IsForQuery : Type 0
  IsForQuery = query_fault groups (shape_of groups costs plan) ≡ None

  -- and costs what is written
  abbrev pub IsPriced : Type 0
  IsPriced = IsForQuery × (cost_of_plan groups costs plan ≡ written)

  -- and there is one bound for each property of each group
  abbrev pub IsShaped : Type 0
  IsShaped = IsPriced × HaveShape groups lists

  -- and each bound is at most what the bounds allow to each way
  abbrev pub IsBounded : Type 0
  IsBounded = IsShaped × AreValid groups costs (bound_in groups lists)

  -- and the least of the root's bounds is the cost
  abbrev pub IsAccepted : ℕ → Type 0
  IsAccepted cost = IsBounded × ((cost ≡ written) × (least_of_root groups lists ≡ Some cost))

  -- ---- the faults, each where what comes before it is in order

  abbrev pub IsFault : CheckFault → Type 0
  IsFault (fault.PlanShape node) = query_fault groups (shape_of groups costs plan) ≡ Some node
  IsFault (fault.WrongCost cost computed) = IsForQuery × ((cost ≡ written) × ((cost_of_plan groups costs plan ≡ computed) × (computed ≢ written)))
  IsFault (fault.BoundShape group) = IsPriced × (first_misshapen groups lists ≡ Some group)
  IsFault (fault.BoundTooHigh group prop bound limit) =
      IsShaped × IsFirstTooHigh groups costs (bound_in groups lists) (all_made groups) (record { made = record { group = record { 0 = group }; prop = prop }; bound = bound; limit = limit })
  IsFault (fault.NotTight cost bound) = IsBounded × ((cost ≡ written) × ((least_of_root groups lists ≡ bound) × (bound ≢ Some cost)))

  abbrev pub IsVerdict : Result ℕ CheckFault → Type 0
  IsVerdict verdict = MatchResult verdict IsAccepted IsFault
