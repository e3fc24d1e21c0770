-- What holds of the text of what is planned holds of the memo of the query's tree.
use Rattle.std.proofs.Common.{◌≡◌, ◌<◌, ◌^◌, ℕ, List, refl, subst, arith}
use Rattle.serde_json.specs.Written.{compact_text}
use Rattle.pdw_algebra.specs.declared.tree.Tree.{Tree}
use Rattle.pdw_answer.specs.declared.plan_text.PlanText.{PlanText}
use Rattle.pdw_answer.specs.declared.answer.PlanVerdict.{PlanVerdict}
use Rattle.pdw_answering.specs.Basis.{IsLeastOn, Reckoned, basis_in}
use Rattle.pdw_answering.specs.Checks.{ChecksBy}
use Rattle.pdw_answering.specs.Explains.{ExplainsBy}
use Rattle.pdw_answering.specs.Prints.{PrintsBy}
use Rattle.pdw_catalog.specs.Catalog.{Tables}
use Rattle.pdw_enum.specs.Least.{IsLeastPlan, IsShort}
use Rattle.pdw_explain.specs.Lines.{explained}
use Rattle.pdw_explore.specs.Levels.{leaf_counts, levels_by}
use Rattle.pdw_groups.specs.Memo.{Contents, all_written, memo_of}
use Rattle.pdw_memo.specs.Memo.{IsMemo, IsPlannable}
use Rattle.pdw_move.specs.declared.cost.Constants.{Constants}
use Rattle.pdw_plan.specs.Cost.{costs_in}
use Rattle.pdw_plan.specs.Count.{node_count}
use Rattle.pdw_plan_files.specs.Verdict.{IsVerdictOn}
use Rattle.pdw_plan_files.specs.Written.{IsPlanFile}
use Rattle.pdw_planjson.specs.Written.{file_data}
use Rattle.pdw_planner.proofs.Undercut.{planned-least}
use Rattle.pdw_planner.specs.PlanFor.{IsPlanFor}
use Rattle.pdw_planner.specs.Planned.{IsPlanned, memo_within}
use Rattle.pdw_planner.specs.declared.planned.Planned.{Planned}
use Rattle.pdw_stats.specs.Book.{Book}
use Rattle.pdw_ways.specs.Bounds.{cost_of_plan}
use Rattle.pdw_ways.specs.declared.plan.Plan.{Plan}

-- short plans have few nodes
pub short-few : (plan : Plan) → IsShort plan → node_count plan < 2 ^ 32
short-few plan short = let few = short.few in let some = short.some in omega (arith, few, some)

-- what is explored is a memo of the tree
abbrev pub memo-of : (tables : Tables) (budget : ℕ) (tree : Tree) → IsPlannable tables tree → IsMemo (memo_within budget tables tree)
memo-of tables budget tree plannable = record {
  tables = tables;
  levels = levels_by budget (leaf_counts (memo_of tables all_written tree).blocks);
  tree = tree;
  plannable = plannable;
  is = refl;
}

module _ (tables : Tables) (book : Book) (n budget : ℕ) (constants : Constants) (tree : Tree) where
  abbrev reckoned-by : IsPlannable tables tree → Reckoned (basis_in tables book n budget constants) tree
  reckoned-by plannable = record { book = book; told = λ name. refl; is = memo-of tables budget tree plannable; over = refl; means = refl }

  least-on : (plannable : IsPlannable tables tree) (plan : Plan) → IsPlanFor tables book n budget constants tree plan → IsLeastOn (basis_in tables book n budget constants) tree (reckoned-by plannable) plan
  least-on plannable plan for = record { query = for.query; least = for.least (memo-of tables budget tree plannable) }

  pub planned-explains : (planned : Planned) (text : PlanText) → ((is : IsMemo planned.memo) → text ≡ explained planned.memo is book n constants planned.plan)
      → IsPlannable tables tree → IsPlanned tables book n budget constants tree planned → ExplainsBy (basis_in tables book n budget constants) tree planned.plan text
  planned-explains planned text tells plannable is = record {
    reckoned = reckoned-by plannable;
    least = least-on plannable planned.plan (planned-least tables book n budget constants tree planned is);
    says = subst (λ (memo : Contents). (of : IsMemo memo) → text ≡ explained memo of book n constants planned.plan) is.memo tells (memo-of tables budget tree plannable);
  }

  pub planned-prints : (planned : Planned) (bytes : List ℕ) → IsPlanFile planned book n constants bytes → IsPlannable tables tree → IsPlanned tables book n budget constants tree planned
      → PrintsBy (basis_in tables book n budget constants) tree planned.plan bytes
  planned-prints planned bytes tells plannable is =
      let costs : Contents → Type 0 = λ memo. (of : IsMemo memo) → IsLeastPlan memo.groups (costs_in memo of book n constants) planned.plan planned.bounds.lists in
      let texts : Contents → Type 0 = λ memo. (of : IsMemo memo)
      → bytes ≡ compact_text (file_data (record { plan = planned.plan; bounds = planned.bounds; cost = cost_of_plan memo.groups (costs_in memo of book n constants) planned.plan })) in
      record {
        reckoned = reckoned-by plannable;
        query = (planned-least tables book n budget constants tree planned is).query;
        lists = planned.bounds.lists;
        least = subst costs is.memo is.least (memo-of tables budget tree plannable);
        short = is.short;
        text = subst texts is.memo tells (memo-of tables budget tree plannable);
      }

  pub memo-checks : (content : List ℕ) (memo : Contents) (verdict : PlanVerdict) → memo ≡ memo_within budget tables tree → IsPlannable tables tree
      → ((is : IsMemo memo) → IsVerdictOn memo.groups (costs_in memo is book n constants) content verdict) → ChecksBy (basis_in tables book n budget constants) tree content verdict
  memo-checks content memo verdict same plannable tells = record {
    reckoned = reckoned-by plannable;
    found = subst (λ (of : Contents). (is : IsMemo of) → IsVerdictOn of.groups (costs_in of is book n constants) content verdict) same tells (memo-of tables budget tree plannable);
  }
