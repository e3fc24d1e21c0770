-- What a statement is prepared to: what it does, and what its query is planned to.
use Rattle.std.specs.Prelude.{⊤, List, [], ◌∷◌, Option, Some, None}
use Rattle.pdw_bind.specs.Bind.{bound}
use Rattle.pdw_engine.specs.State.{State}
use Rattle.pdw_form.specs.declared.judged.Judged.{Judged}
use Rattle.pdw_form.specs.declared.judged.Judged.TheVariants as judged
use Rattle.pdw_form.specs.declared.judged.JudgedSelect.{JudgedSelect}
use Rattle.pdw_planner.specs.Planned.{IsPlanned}
use Rattle.pdw_planner.specs.declared.planned.Planned.{Planned}
use Rattle.pdw_ways.specs.declared.plan.Plan.{Plan}

pub record Ready : Type 0 where
  pub work : Judged
  pub planned : Option Planned

-- the statements whose query is planned, with its numbered form: SELECT, EXPLAIN and EXPLAIN JSON
abbrev pub planned_form : Judged → Option JudgedSelect
planned_form (judged.Select form) = Some form
planned_form (judged.Explain form) = Some form
planned_form (judged.ExplainJson form) = Some form
planned_form _ = None

-- a query is planned over the tables, the statistics and the settings of a session, exactly where there is one
abbrev pub IsPlannedIn : State → Option JudgedSelect → Option Planned → Type 0
IsPlannedIn state None None = ⊤
IsPlannedIn state (Some form) (Some planned) =
    IsPlanned state.contents.tables state.book state.contents.nodes state.settings.budget state.settings.constants (bound form.query) planned
IsPlannedIn state _ _ = ⊥

abbrev pub HasPlan : State → Ready → Type 0
HasPlan state ready = IsPlannedIn state (planned_form ready.work) ready.planned

-- its plan alone, or none
abbrev pub plans_in : Option Planned → List Plan
plans_in None = []
plans_in (Some planned) = planned.plan ∷ []
