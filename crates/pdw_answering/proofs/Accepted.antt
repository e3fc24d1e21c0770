-- CHECK PLAN accepts what EXPLAIN JSON prints, over the same basis, where the file reads back from its bytes.
use Rattle.std.proofs.Common.{◌≡◌, ℕ, List, Some, Ok, refl, subst}
use Rattle.std.specs.Prelude.{IsUtf8}
use Rattle.serde_json.specs.Read.{read}
use Rattle.pdw_algebra.specs.declared.tree.Tree.{Tree}
use Rattle.pdw_answer.specs.declared.answer.PlanVerdict.{PlanVerdict}
use Rattle.pdw_answer.specs.declared.answer.PlanVerdict.TheVariants as verdict
use Rattle.pdw_answering.proofs.SameBooks.{CostLaw, reckoned-same}
use Rattle.pdw_answering.specs.Basis.{Basis, costs_on, memo_on}
use Rattle.pdw_answering.specs.Checks.{ChecksBy}
use Rattle.pdw_answering.specs.Prints.{PrintsBy, file_on}
use Rattle.pdw_cert.specs.Verdict.{IsAccepted}
use Rattle.pdw_groups.specs.declared.group.Group.{Group}
use Rattle.pdw_plan_files.proofs.OneVerdict.{one-found}
use Rattle.pdw_plan_files.specs.Verdict.{HoldsWith, IsVerdictOn}
use Rattle.pdw_planjson.specs.File.{described}
use Rattle.pdw_planjson.specs.Written.{file_data}
use Rattle.pdw_ways.specs.Bounds.{cost_of_plan}
use Rattle.pdw_ways.specs.Ways.{Costs}
use Rattle.pdw_ways.specs.declared.plan.Plan.{Plan}

module _ (basis : Basis) (tree : Tree) (plan : Plan) (bytes : List ℕ) (printed : PrintsBy basis tree plan bytes) where
  abbrev groups : List Group
  groups = (memo_on basis tree).groups

  abbrev costs : Costs
  costs = costs_on basis tree printed.reckoned

  abbrev cost : ℕ
  cost = cost_of_plan groups costs plan

  all-right : IsAccepted groups costs plan cost printed.lists cost
  all-right = let least = printed.least in ((((printed.query costs, refl), least.shape), least.valid), (refl, least.tight))

  module _ (utf8 : IsUtf8 bytes) (reads : read bytes ≡ Some (file_data (file_on basis tree printed.reckoned plan printed.lists)))
      (back : described (file_data (file_on basis tree printed.reckoned plan printed.lists)) ≡ Ok (file_on basis tree printed.reckoned plan printed.lists)) where
    holds : HoldsWith groups costs bytes (Ok cost)
    holds = record {
      file = file_on basis tree printed.reckoned plan printed.lists;
      holds = (utf8, (file_data (file_on basis tree printed.reckoned plan printed.lists), reads, back));
      verdict = all-right;
    }

    pub prints-accepted : CostLaw → (found : PlanVerdict) → ChecksBy basis tree bytes found → found ≡ verdict.Accepted cost
    prints-accepted whatever found checks =
        one-found groups costs bytes found (verdict.Accepted cost)
        (subst (λ (of : Costs). IsVerdictOn groups of bytes found) (reckoned-same whatever basis tree checks.reckoned printed.reckoned) checks.found) holds
