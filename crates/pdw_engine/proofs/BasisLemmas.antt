-- What queries are planned over, as the code hands it on and as the session keeps it.
use Rattle.std.proofs.Common.{◌≡◌, ℕ, List, subst, sym}
use Rattle.pdw_algebra.specs.declared.tree.Tree.{Tree}
use Rattle.pdw_answer.specs.declared.answer.PlanVerdict.{PlanVerdict}
use Rattle.pdw_answer.specs.declared.plan_text.PlanText.{PlanText}
use Rattle.pdw_answering.specs.Basis.{basis_in}
use Rattle.pdw_answering.specs.Checks.{ChecksBy}
use Rattle.pdw_answering.specs.Explains.{ExplainsBy}
use Rattle.pdw_answering.specs.Prints.{PrintsBy}
use Rattle.pdw_catalog.specs.Catalog.{Tables}
use Rattle.pdw_memo.specs.Memo.{IsPlannable}
use Rattle.pdw_move.specs.Cost.{AreInRange}
use Rattle.pdw_move.specs.declared.cost.Constants.{Constants}
use Rattle.pdw_planner.specs.Planned.{IsPlanned}
use Rattle.pdw_planner.specs.declared.planned.Planned.{Planned}
use Rattle.pdw_stats.specs.Book.{Book}
use Rattle.pdw_ways.specs.declared.plan.Plan.{Plan}

-- the tables, the statistics, the nodes, the budget and the constants
pub record On : Type 0 where
  pub tables : Tables
  pub book : Book
  pub nodes : ℕ
  pub budget : ℕ
  pub constants : Constants

module _ (handed kept : On) (same : handed ≡ kept) (tree : Tree) where
  pub plannable-handed : IsPlannable kept.tables tree → IsPlannable handed.tables tree
  plannable-handed is = subst (λ (on : On). IsPlannable on.tables tree) (sym same) is

  pub range-handed : AreInRange kept.constants → AreInRange handed.constants
  range-handed is = subst (λ (on : On). AreInRange on.constants) (sym same) is

  pub planned-handed : (planned : Planned) → IsPlanned kept.tables kept.book kept.nodes kept.budget kept.constants tree planned → IsPlanned handed.tables handed.book handed.nodes handed.budget handed.constants tree planned
  planned-handed planned is = subst (λ (on : On). IsPlanned on.tables on.book on.nodes on.budget on.constants tree planned) (sym same) is

  pub planned-kept : (planned : Planned) → IsPlanned handed.tables handed.book handed.nodes handed.budget handed.constants tree planned → IsPlanned kept.tables kept.book kept.nodes kept.budget kept.constants tree planned
  planned-kept planned is = subst (λ (on : On). IsPlanned on.tables on.book on.nodes on.budget on.constants tree planned) same is

  pub explains-kept : (plan : Plan) (text : PlanText) → ExplainsBy (basis_in handed.tables handed.book handed.nodes handed.budget handed.constants) tree plan text
      → ExplainsBy (basis_in kept.tables kept.book kept.nodes kept.budget kept.constants) tree plan text
  explains-kept plan text is = subst (λ (on : On). ExplainsBy (basis_in on.tables on.book on.nodes on.budget on.constants) tree plan text) same is

  pub prints-kept : (plan : Plan) (bytes : List ℕ) → PrintsBy (basis_in handed.tables handed.book handed.nodes handed.budget handed.constants) tree plan bytes
      → PrintsBy (basis_in kept.tables kept.book kept.nodes kept.budget kept.constants) tree plan bytes
  prints-kept plan bytes is = subst (λ (on : On). PrintsBy (basis_in on.tables on.book on.nodes on.budget on.constants) tree plan bytes) same is

  pub checks-kept : (content : List ℕ) (verdict : PlanVerdict) → ChecksBy (basis_in handed.tables handed.book handed.nodes handed.budget handed.constants) tree content verdict
      → ChecksBy (basis_in kept.tables kept.book kept.nodes kept.budget kept.constants) tree content verdict
  checks-kept content verdict is = subst (λ (on : On). ChecksBy (basis_in on.tables on.book on.nodes on.budget on.constants) tree content verdict) same is
