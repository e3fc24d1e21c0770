-- The text of CHECK PLAN: the plan is accepted with its cost, or the first fault.
use Rattle.std.specs.Prelude.{⊤, ℕ, List, [], ◌++◌, codes, Option, Some, None}
use Rattle.std.specs.Fmt.{decimal}
use Rattle.pdw_answer.specs.declared.answer.PlanVerdict.{PlanVerdict}
use Rattle.pdw_answer.specs.declared.answer.PlanVerdict.TheVariants as verdict
use Rattle.pdw_move.specs.declared.kinds.Prop.{Prop}
use Rattle.pdw_planjson.specs.declared.file.JsonFault.{JsonFault}
use Rattle.pdw_planjson.specs.declared.file.JsonFault.TheVariants as json
use Rattle.pdw_planjson.specs.declared.file.Place.{Place}
use Rattle.pdw_planjson.specs.declared.file.Place.TheVariants as place
use Rattle.pdw_ways.specs.declared.plan.CheckFault.{CheckFault}
use Rattle.pdw_ways.specs.declared.plan.CheckFault.TheVariants as check
use Rattle.pdw_show.specs.Words.{prop_text}

-- ---- no plan file

abbrev pub place_text : Place → List ℕ
place_text place.Top = codes "SHAPE TOP"
place_text (place.Node number) = codes "SHAPE NODE " ++ decimal number
place_text (place.Bound number) = codes "SHAPE BOUND " ++ decimal number

abbrev pub json_fault_text : JsonFault → List ℕ
json_fault_text json.NotJson = codes "NOTJSON"
json_fault_text (json.Shape place) = place_text place
json_fault_text json.Memory = []

-- a want of memory is no fault of the bytes
abbrev pub IsNamed : JsonFault → Type 0
IsNamed json.NotJson = ⊤
IsNamed (json.Shape place) = ⊤
IsNamed json.Memory = ⊥

-- ---- a plan that is not accepted

-- an unreachable bound has no number
abbrev pub bound_text : Option ℕ → List ℕ
bound_text None = codes " BOUND NONE"
bound_text (Some bound) = codes " BOUND " ++ decimal bound

abbrev pub wrong_cost_text : ℕ → ℕ → List ℕ
wrong_cost_text written computed = codes "WRONGCOST WRITTEN " ++ (decimal written ++ (codes " COMPUTED " ++ decimal computed))

abbrev pub too_high_text : ℕ → Prop → Option ℕ → ℕ → List ℕ
too_high_text group prop bound limit =
    codes "BOUNDTOOHIGH G" ++ (decimal group ++ (codes " " ++ (prop_text prop ++ (bound_text bound ++ (codes " LIMIT " ++ decimal limit)))))

abbrev pub not_tight_text : ℕ → Option ℕ → List ℕ
not_tight_text cost bound = codes "NOTTIGHT COST " ++ (decimal cost ++ bound_text bound)

abbrev pub check_fault_text : CheckFault → List ℕ
check_fault_text (check.PlanShape node) = codes "PLANSHAPE " ++ decimal node
check_fault_text (check.WrongCost written computed) = wrong_cost_text written computed
check_fault_text (check.BoundShape group) = codes "BOUNDSHAPE " ++ decimal group
check_fault_text (check.BoundTooHigh group prop bound limit) = too_high_text group prop bound limit
check_fault_text (check.NotTight cost bound) = not_tight_text cost bound

-- ---- the verdict

abbrev pub finding_text : PlanVerdict → List ℕ
finding_text (verdict.Accepted cost) = codes "PLAN ACCEPTED COST " ++ decimal cost
finding_text (verdict.Json fault) = codes "PLAN REFUSED " ++ json_fault_text fault
finding_text (verdict.Check fault) = codes "PLAN REFUSED " ++ check_fault_text fault

abbrev pub IsFound : PlanVerdict → Type 0
IsFound (verdict.Accepted cost) = ⊤
IsFound (verdict.Json fault) = IsNamed fault
IsFound (verdict.Check fault) = ⊤

abbrev pub verdict_line : PlanVerdict → List ℕ
verdict_line verdict = finding_text verdict ++ codes "\n"
