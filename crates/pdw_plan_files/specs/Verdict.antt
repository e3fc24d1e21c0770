-- What is found of the bytes of a file that should hold a least plan.
use Rattle.std.specs.Prelude.{ℕ, List, Result, Ok, Err}
use Rattle.pdw_answer.specs.declared.answer.PlanVerdict.{PlanVerdict}
use Rattle.pdw_answer.specs.declared.answer.PlanVerdict.TheVariants as verdict
use Rattle.pdw_cert.specs.Verdict.{IsVerdict}
use Rattle.pdw_groups.specs.declared.group.Group.{Group}
use Rattle.pdw_planjson.specs.File.{Answers}
use Rattle.pdw_planjson.specs.declared.file.JsonFault.TheVariants as fault
use Rattle.pdw_planjson.specs.declared.file.PlanFile.{PlanFile}
use Rattle.pdw_ways.specs.Ways.{Costs}
use Rattle.pdw_ways.specs.declared.plan.CheckFault.{CheckFault}

module _ (groups : List Group) (costs : Costs) where
  -- the verdict on the file's plan, with its cost and its bounds
  abbrev pub IsFileVerdict : PlanFile → Result ℕ CheckFault → Type 0
  IsFileVerdict file is = IsVerdict groups costs file.plan file.cost file.bounds.lists is

  abbrev pub IsFoundOf : PlanFile → PlanVerdict → Type 0
  IsFoundOf file (verdict.Accepted cost) = IsFileVerdict file (Ok cost)
  IsFoundOf file (verdict.Check wrong) = IsFileVerdict file (Err wrong)
  IsFoundOf file (verdict.Json wrong) = ⊥

  -- the bytes are those of a plan file, on whose plan this is the verdict
  pub record HoldsWith (content : List ℕ) (is : Result ℕ CheckFault) : Type 0 where
    pub file : PlanFile
    pub holds : Answers content (Ok file)
    pub verdict : IsFileVerdict file is

  -- the bytes are no plan file: they are not UTF-8 or no JSON, or a first place of the file breaks a rule; or they are one, whose
  -- plan is accepted, or has a first fault. Want of memory is no verdict
  abbrev pub IsVerdictOn : List ℕ → PlanVerdict → Type 0
  IsVerdictOn content (verdict.Accepted cost) = HoldsWith content (Ok cost)
  IsVerdictOn content (verdict.Check wrong) = HoldsWith content (Err wrong)
  IsVerdictOn content (verdict.Json fault.NotJson) = Answers content (Err fault.NotJson)
  IsVerdictOn content (verdict.Json (fault.Shape place)) = Answers content (Err (fault.Shape place))
  IsVerdictOn content (verdict.Json fault.Memory) = ⊥

  pub record HasVerdict (content : List ℕ) : Type 0 where
    pub found : PlanVerdict
    pub is : IsVerdictOn content found
