-- There is one verdict on the bytes of a file.
use Rattle.std.proofs.Common.{◌≡◌, ℕ, List, Option, Some, None, Result, Ok, Err, refl, sym, ap, subst, ◌∙◌}
use Rattle.std.specs.Prelude.{IsUtf8}
use Rattle.serde_json.specs.Data.{Data}
use Rattle.serde_json.specs.Read.{read}
use Rattle.pdw_answer.specs.declared.answer.PlanVerdict.{PlanVerdict}
use Rattle.pdw_answer.specs.declared.answer.PlanVerdict.TheVariants as verdict
use Rattle.pdw_cert.proofs.Verdicts.{one-verdict}
use Rattle.pdw_groups.specs.declared.group.Group.{Group}
use Rattle.pdw_plan_files.specs.Verdict.{HoldsWith, IsFileVerdict, IsVerdictOn}
use Rattle.pdw_planjson.specs.File.{Answers, described}
use Rattle.pdw_planjson.specs.declared.file.JsonFault.TheVariants as fault
use Rattle.pdw_planjson.specs.declared.file.Place.{Place}
use Rattle.pdw_planjson.specs.declared.file.PlanFile.{PlanFile}
use Rattle.pdw_ways.specs.Ways.{Costs}
use Rattle.pdw_ways.specs.declared.plan.CheckFault.{CheckFault}

-- ---- what bytes hold

-- what the value of UTF-8 bytes describes
record Describes (content : List ℕ) (is : Result PlanFile Place) : Type 0 where
  utf8 : IsUtf8 content
  value : Data
  reads : read content ≡ Some value
  describes : described value ≡ is

same-value : (found : Option Data) (d e : Data) → found ≡ Some d → found ≡ Some e → d ≡ e
same-value found d e first second = cc

one-described : (content : List ℕ) (a b : Result PlanFile Place) → Describes content a → Describes content b → a ≡ b
one-described content a b first second = sym first.describes ∙ ap described (same-value (read content) first.value second.value first.reads second.reads) ∙ second.describes

file-described : (content : List ℕ) (file : PlanFile) → Answers content (Ok file) → Describes content (Ok file)
file-described content file is = record { utf8 = is.0; value = is.1.0; reads = is.1.1; describes = is.1.2 }

place-described : (content : List ℕ) (place : Place) → Answers content (Err (fault.Shape place)) → Describes content (Err place)
place-described content place is = record { utf8 = is.0; value = is.1.0; reads = is.1.1; describes = is.1.2 }

-- bytes that are no JSON describe nothing
no-json : {A : Type 0} (content : List ℕ) (is : Result PlanFile Place) → Answers content (Err fault.NotJson) → Describes content is → A
no-json content is none of = let wrong : Some of.value ≡ None = sym of.reads ∙ none of.utf8 in absurd (cc)

module _ (groups : List Group) (costs : Costs) (content : List ℕ) where
  -- ---- verdicts on what they hold

  no-place : {A : Type 0} (place : Place) (is : Result ℕ CheckFault) → Answers content (Err (fault.Shape place)) → HoldsWith groups costs content is → A
  no-place place is wrong of =
      let both : Err place ≡ Ok of.file = one-described content (Err place) (Ok of.file) (place-described content place wrong) (file-described content of.file of.holds) in
      absurd (cc)

  no-text : {A : Type 0} (is : Result ℕ CheckFault) → Answers content (Err fault.NotJson) → HoldsWith groups costs content is → A
  no-text is none of = no-json content (Ok of.file) none (file-described content of.file of.holds)

  pub one-of-file : (a b : Result ℕ CheckFault) → HoldsWith groups costs content a → HoldsWith groups costs content b → a ≡ b
  one-of-file a b first second =
      let both : ◌≡◌ {A = Result PlanFile Place} (Ok first.file) (Ok second.file) = one-described content (Ok first.file) (Ok second.file) (file-described content first.file first.holds) (file-described content second.file second.holds) in
      let same : first.file ≡ second.file = cc in
      one-verdict groups costs second.file.plan second.file.cost second.file.bounds.lists a b (subst (λ (file : PlanFile). IsFileVerdict groups costs file a) same first.verdict) second.verdict

  -- ---- one verdict

  cost-same : (a b : ℕ) → ◌≡◌ {A = Result ℕ CheckFault} (Ok a) (Ok b) → a ≡ b
  cost-same a b is = cc

  fault-same : (a b : CheckFault) → ◌≡◌ {A = Result ℕ CheckFault} (Err a) (Err b) → a ≡ b
  fault-same a b is = cc

  no-both : {A : Type 0} (cost : ℕ) (wrong : CheckFault) → ◌≡◌ {A = Result ℕ CheckFault} (Ok cost) (Err wrong) → A
  no-both cost wrong is = absurd (cc)

  place-same : (a b : Place) → ◌≡◌ {A = Result PlanFile Place} (Err a) (Err b) → a ≡ b
  place-same a b is = cc

  pub one-found : (first second : PlanVerdict) → IsVerdictOn groups costs content first → IsVerdictOn groups costs content second → first ≡ second
  one-found (verdict.Accepted a) (verdict.Accepted b) first second = ap verdict.Accepted (cost-same a b (one-of-file (Ok a) (Ok b) first second))
  one-found (verdict.Accepted a) (verdict.Check b) first second = no-both a b (one-of-file (Ok a) (Err b) first second)
  one-found (verdict.Accepted a) (verdict.Json fault.NotJson) first second = no-text (Ok a) second first
  one-found (verdict.Accepted a) (verdict.Json (fault.Shape place)) first second = no-place place (Ok a) second first
  one-found (verdict.Accepted a) (verdict.Json fault.Memory) first second = absurd second
  one-found (verdict.Check a) (verdict.Accepted b) first second = no-both b a (one-of-file (Ok b) (Err a) second first)
  one-found (verdict.Check a) (verdict.Check b) first second = ap verdict.Check (fault-same a b (one-of-file (Err a) (Err b) first second))
  one-found (verdict.Check a) (verdict.Json fault.NotJson) first second = no-text (Err a) second first
  one-found (verdict.Check a) (verdict.Json (fault.Shape place)) first second = no-place place (Err a) second first
  one-found (verdict.Check a) (verdict.Json fault.Memory) first second = absurd second
  one-found (verdict.Json fault.NotJson) (verdict.Accepted b) first second = no-text (Ok b) first second
  one-found (verdict.Json fault.NotJson) (verdict.Check b) first second = no-text (Err b) first second
  one-found (verdict.Json fault.NotJson) (verdict.Json fault.NotJson) first second = refl
  one-found (verdict.Json fault.NotJson) (verdict.Json (fault.Shape place)) first second = no-json content (Err place) first (place-described content place second)
  one-found (verdict.Json fault.NotJson) (verdict.Json fault.Memory) first second = absurd second
  one-found (verdict.Json (fault.Shape place)) (verdict.Accepted b) first second = no-place place (Ok b) first second
  one-found (verdict.Json (fault.Shape place)) (verdict.Check b) first second = no-place place (Err b) first second
  one-found (verdict.Json (fault.Shape place)) (verdict.Json fault.NotJson) first second = no-json content (Err place) second (place-described content place first)
  one-found (verdict.Json (fault.Shape place)) (verdict.Json (fault.Shape other)) first second =
      ap (λ (p : Place). verdict.Json (fault.Shape p)) (place-same place other (one-described content (Err place) (Err other) (place-described content place first) (place-described content other second)))
  one-found (verdict.Json (fault.Shape place)) (verdict.Json fault.Memory) first second = absurd second
  one-found (verdict.Json fault.Memory) second first other = absurd first
