-- The answer to the text of a plan file that its data describes is that file, or want of memory.
use Rattle.std.proofs.Common.{◌≡◌, ℕ, List, Option, Some, None, Result, Ok, Err, is_ok, is_some, inl, inr, true≢false, refl, sym, ap, ◌∙◌}
use Rattle.std.specs.Prelude.{◌⊎◌, IsUtf8}
use Rattle.serde_json.specs.Data.{Data}
use Rattle.serde_json.specs.Read.{read}
use Rattle.pdw_planjson.specs.File.{Answers, described}
use Rattle.pdw_planjson.specs.Written.{file_data}
use Rattle.pdw_planjson.specs.declared.file.JsonFault.{JsonFault}
use Rattle.pdw_planjson.specs.declared.file.JsonFault.TheVariants.{NotJson, Shape, Memory}
use Rattle.pdw_planjson.specs.declared.file.Place.{Place}
use Rattle.pdw_planjson.specs.declared.file.PlanFile.{PlanFile}

same-data : (bytes : List ℕ) (d e : Data) → read bytes ≡ Some d → read bytes ≡ Some e → d ≡ e
same-data bytes d e first second = cc

same-file : (a b : PlanFile) → ◌≡◌ {A = Result PlanFile Place} (Ok a) (Ok b) → a ≡ b
same-file a b is = cc

no-place : (place : Place) (file : PlanFile) → Err place ≡ Ok file → ⊥
no-place place file is = true≢false (sym (ap is_ok is))

pub answer-back : (file : PlanFile) (bytes : List ℕ) (answer : Result PlanFile JsonFault) → described (file_data file) ≡ Ok file → IsUtf8 bytes → read bytes ≡ Some (file_data file) → Answers bytes answer → (answer ≡ Ok file) ⊎ (answer ≡ Err Memory)
answer-back file bytes (Ok other) is utf8 reads answers =
    let d = answers.1.0 in
    inl (ap Ok (same-file other file (sym answers.1.2 ∙ ap described (same-data bytes d (file_data file) answers.1.1 reads) ∙ is)))
answer-back file bytes (Err NotJson) is utf8 reads answers = absurd (true≢false (ap is_some (sym reads ∙ answers utf8)))
answer-back file bytes (Err (Shape place)) is utf8 reads answers =
    let d = answers.1.0 in
    absurd (no-place place file (sym answers.1.2 ∙ ap described (same-data bytes d (file_data file) answers.1.1 reads) ∙ is))
answer-back file bytes (Err Memory) is utf8 reads answers = inr refl
