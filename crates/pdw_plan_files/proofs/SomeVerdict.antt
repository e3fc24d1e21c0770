-- There is a verdict on the bytes of each file.
use Rattle.std.proofs.Common.{◌≡◌, ℕ, Bool, true, false, true≢false, List, Option, Some, None, Result, Ok, Err, refl, sym, ◌∙◌}
use Rattle.std.proofs.lemmas.Str.{IsUtf8-from_is_utf8, is_utf8-from_IsUtf8}
use Rattle.std.specs.Prelude.{IsUtf8}
use Rattle.std.specs.Str.{is_utf8}
use Rattle.serde_json.specs.Data.{Data}
use Rattle.serde_json.specs.Read.{read}
use Rattle.pdw_answer.specs.declared.answer.PlanVerdict.TheVariants as verdict
use Rattle.pdw_groups.specs.declared.group.Group.{Group}
use Rattle.pdw_plan_files.proofs.Searched.{plan-verdict}
use Rattle.pdw_plan_files.specs.Verdict.{HasVerdict, IsFileVerdict}
use Rattle.pdw_planjson.specs.File.{described}
use Rattle.pdw_planjson.specs.declared.file.JsonFault.TheVariants as fault
use Rattle.pdw_planjson.specs.declared.file.Place.{Place}
use Rattle.pdw_planjson.specs.declared.file.PlanFile.{PlanFile}
use Rattle.pdw_ways.specs.Ways.{Costs}
use Rattle.pdw_ways.specs.declared.plan.CheckFault.{CheckFault}

module _ (groups : List Group) (costs : Costs) (content : List ℕ) where
  of-file : (file : PlanFile) (d : Data) → IsUtf8 content → read content ≡ Some d → described d ≡ Ok file → HasVerdict groups costs content
  of-file file d utf8 reads is = let on = plan-verdict groups costs file.plan file.cost file.bounds.lists in by on.found on.is
    where
      by : (found : Result ℕ CheckFault) → IsFileVerdict groups costs file found → HasVerdict groups costs content
      by (Ok cost) on = record { found = verdict.Accepted cost; is = record { file = file; holds = (utf8, (d, reads, is)); verdict = on } }
      by (Err wrong) on = record { found = verdict.Check wrong; is = record { file = file; holds = (utf8, (d, reads, is)); verdict = on } }

  of-value : (d : Data) → IsUtf8 content → read content ≡ Some d → HasVerdict groups costs content
  of-value d utf8 reads = by (described d) refl
    where
      by : (found : Result PlanFile Place) → described d ≡ found → HasVerdict groups costs content
      by (Ok file) is = of-file file d utf8 reads is
      by (Err place) is = record { found = verdict.Json (fault.Shape place); is = (utf8, (d, reads, is)) }

  of-text : IsUtf8 content → HasVerdict groups costs content
  of-text utf8 = by (read content) refl
    where
      by : (found : Option Data) → read content ≡ found → HasVerdict groups costs content
      by None none = record { found = verdict.Json fault.NotJson; is = λ is. none }
      by (Some d) reads = of-value d utf8 reads

  pub some-verdict : HasVerdict groups costs content
  some-verdict = by (is_utf8 content) refl
    where
      by : (test : Bool) → is_utf8 content ≡ test → HasVerdict groups costs content
      by true is = of-text (IsUtf8-from_is_utf8 content is)
      by false not = record { found = verdict.Json fault.NotJson; is = λ utf8. absurd (true≢false (sym (is_utf8-from_IsUtf8 content utf8) ∙ not)) }
