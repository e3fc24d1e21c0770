-- The plan file of what is planned is accepted with its cost.
use Rattle.std.proofs.Common.{◌≡◌, ℕ, List, refl}
use Rattle.pdw_algebra.specs.declared.tree.Tree.{Tree}
use Rattle.pdw_answer.specs.declared.answer.PlanVerdict.{PlanVerdict}
use Rattle.pdw_answer.specs.declared.answer.PlanVerdict.TheVariants.{Accepted}
use Rattle.pdw_catalog.specs.Catalog.{Tables}
use Rattle.pdw_memo.specs.Memo.{IsMemo}
use Rattle.pdw_move.specs.declared.cost.Constants.{Constants}
use Rattle.pdw_plan.specs.Cost.{costs_in}
use Rattle.pdw_plan_files.proofs.OneVerdict.{one-found}
use Rattle.pdw_plan_files.specs.Verdict.{IsVerdictOn}
use Rattle.pdw_plan_files.specs.Written.{ReadsBack, file_of}
use Rattle.pdw_planjson.specs.Limits.{IsFile}
use Rattle.pdw_planjson.specs.Written.{file_data}
use Rattle.pdw_planner.specs.Planned.{IsPlanned, cost_in}
use Rattle.pdw_planner.specs.declared.planned.Planned.{Planned}
use Rattle.pdw_stats.specs.Book.{Book}
use Rattle.pdw_ways.specs.Ways.{Costs}

module _ (tables : Tables) (book : Book) (n budget : ℕ) (constants : Constants) (tree : Tree) (planned : Planned) (is_planned : IsPlanned tables book n budget constants tree planned) (is : IsMemo planned.memo) where
  abbrev costs : Costs
  costs = costs_in planned.memo is book n constants

  pub printed-accepted : IsFile (file_of planned is book n constants) → (bytes : List ℕ) → ReadsBack planned book n constants bytes → (verdict : PlanVerdict) → IsVerdictOn planned.memo.groups costs bytes verdict
      → verdict ≡ Accepted (cost_in planned is book n constants)
  printed-accepted fits bytes back verdict of =
      let least = is_planned.least is in
      one-found planned.memo.groups costs bytes verdict (Accepted (cost_in planned is book n constants)) of (record {
        file = file_of planned is book n constants;
        holds = (back.utf8, (file_data (file_of planned is book n constants), back.reads is, back.describes is fits));
        verdict = ((((is_planned.query costs, refl), least.shape), least.valid), (refl, least.tight));
      })
