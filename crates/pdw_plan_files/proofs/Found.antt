-- What is found of the file that bytes hold is found of the bytes.
use Rattle.std.proofs.Common.{ℕ, List, Ok}
use Rattle.pdw_answer.specs.declared.answer.PlanVerdict.{PlanVerdict}
use Rattle.pdw_answer.specs.declared.answer.PlanVerdict.TheVariants as verdict
use Rattle.pdw_groups.specs.declared.group.Group.{Group}
use Rattle.pdw_plan_files.specs.Verdict.{IsFoundOf, IsVerdictOn}
use Rattle.pdw_planjson.specs.File.{Answers}
use Rattle.pdw_planjson.specs.declared.file.PlanFile.{PlanFile}
use Rattle.pdw_ways.specs.Ways.{Costs}

pub found-of-bytes : (groups : List Group) (costs : Costs) (content : List ℕ) (file : PlanFile) → Answers content (Ok file) → (found : PlanVerdict) → IsFoundOf groups costs file found → IsVerdictOn groups costs content found
found-of-bytes groups costs content file holds (verdict.Accepted cost) is = record { file = file; holds = holds; verdict = is }
found-of-bytes groups costs content file holds (verdict.Check wrong) is = record { file = file; holds = holds; verdict = is }
found-of-bytes groups costs content file holds (verdict.Json wrong) is = absurd is
