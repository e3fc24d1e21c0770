-- The answer of a check of a plan.
use Rattle.std.specs.Prelude.{◌≡◌, List, Some, None, Result, MatchResult}
use Rattle.pdw_groups.specs.declared.group.Group.{Group}
use Rattle.pdw_groups.specs.declared.key.GroupId.{GroupId}
use Rattle.pdw_move.specs.declared.kinds.Prop.{Prop}
use Rattle.pdw_ways.specs.Shape.{query_fault, shape_of}
use Rattle.pdw_ways.specs.Ways.{Costs}
use Rattle.pdw_ways.specs.declared.plan.Plan.{Plan}
use Rattle.pdw_ways.specs.declared.plan.PlanFault.{PlanFault}

-- the group and the property that the plan makes, where it is one for the query; or the number of its fault
abbrev pub IsAnswer : List Group → Costs → Plan → Result (GroupId × Prop) PlanFault → Type 0
IsAnswer groups costs plan answer =
    MatchResult answer (λ made. (query_fault groups (shape_of groups costs plan) ≡ None) × ((shape_of groups costs plan).made ≡ record { group = made.0; prop = made.1 }))
    (λ fault. query_fault groups (shape_of groups costs plan) ≡ Some fault.node)
