-- Every EXPLAIN, EXPLAIN JSON and CHECK PLAN has an answer: over a state that a script reaches, each query has a least plan.
use Rattle.std.proofs.Common.{◌≡◌, ◌≤◌, ℕ, List, Some, refl}
use Rattle.serde_json.specs.Written.{compact_text}
use Rattle.pdw_algebra.specs.declared.tree.Tree.{Tree}
use Rattle.pdw_answer.specs.declared.answer.Answer.{Answer}
use Rattle.pdw_answer.specs.declared.answer.Answer.TheVariants as answers
use Rattle.pdw_answering.specs.Basis.{Reckoned, costs_on, memo_on}
use Rattle.pdw_answering.specs.Prints.{file_on}
use Rattle.pdw_bind.specs.Bind.{bound}
use Rattle.pdw_engine.proofs.PlainLemmas.{SamePlain-refl}
use Rattle.pdw_engine.proofs.ReachablePlans.{LeastLaw, reachable-least}
use Rattle.pdw_engine.specs.Executes.{ChecksContent, Printed, Shown, basis_of}
use Rattle.pdw_engine.specs.Plain.{Plain}
use Rattle.pdw_engine.specs.Prepared.{IsPrepared}
use Rattle.pdw_engine.specs.Reachable.{IsReachable}
use Rattle.pdw_explain.specs.Lines.{explained}
use Rattle.pdw_form.specs.declared.judged.Judged.{Judged}
use Rattle.pdw_form.specs.declared.judged.JudgedSelect.{JudgedSelect}
use Rattle.pdw_plan_exists.specs.HasLeastPlan.{HasLeastPlan}
use Rattle.pdw_plan_files.proofs.SomeVerdict.{some-verdict}
use Rattle.pdw_plan_files.specs.Verdict.{HasVerdict}
use Rattle.pdw_planjson.specs.Written.{file_data}
use Rattle.pdw_stats.specs.Book.{Book, stats_of}
use Rattle.pdw_walk.specs.Forms.{judged_select_of}
use Rattle.pdw_ways.specs.declared.plan.Plan.{Plan}

-- a query has a least plan by a book with the statistics of a plain state
pub record HasLeast (old : Plain) (form : JudgedSelect) : Type 0 where
  pub book : Book
  pub told : (name : List ℕ) → stats_of name book ≡ old.stats name
  pub least : HasLeastPlan old.tables book old.nodes old.settings.budget old.settings.constants (bound form.query)

module _ (old : Plain) (form : JudgedSelect) (has : HasLeast old form) where
  abbrev tree : Tree
  tree = bound form.query

  reckoned : Reckoned (basis_of old) tree
  reckoned = record { book = has.book; told = has.told; is = (has.least).is; over = (has.least).of_tables; means = (has.least).of_tree }

  pub least-shown : (plan : Plan) × (answer : Answer) × Shown old form plan answer
  least-shown = (
    (has.least).plan,
    answers.Plan (explained (memo_on (basis_of old) tree) (has.least).is has.book old.nodes old.settings.constants (has.least).plan),
    record {
      text = explained (memo_on (basis_of old) tree) (has.least).is has.book old.nodes old.settings.constants (has.least).plan;
      answered = refl;
      shown = record {
        reckoned = record { book = has.book; told = has.told; is = (has.least).is; over = (has.least).of_tables; means = (has.least).of_tree };
        least = record { query = (has.least).query; least = ((has.least).least).none_cheaper };
        says = refl;
      };
    },
  )

  abbrev file-text : Reckoned (basis_of old) tree → List ℕ
  file-text by = compact_text (file_data (file_on (basis_of old) tree by (has.least).plan (has.least).lists))

  pub least-printed : (plan : Plan) × (answer : Answer) × Printed old form plan answer
  least-printed =
      let by : Reckoned (basis_of old) tree = record { book = has.book; told = has.told; is = (has.least).is; over = (has.least).of_tables; means = (has.least).of_tree } in (
        (has.least).plan,
        answers.Json (file-text by),
        record {
          bytes = file-text by;
          answered = refl;
          printed = record { reckoned = by; query = (has.least).query; lists = (has.least).lists; least = (has.least).least; short = (has.least).short; text = refl };
        },
      )

  pub content-checked : (content : List ℕ) → (answer : Answer) × ChecksContent old form content answer old
  content-checked content =
      let verdict : HasVerdict (memo_on (basis_of old) tree).groups (costs_on (basis_of old) tree reckoned) content = some-verdict _ _ content in
      (answers.Checked verdict.found, record { verdict = verdict.found; answered = refl; checked = record { reckoned = reckoned; found = verdict.is }; same = SamePlain-refl old })

-- over a state that a script reaches
pub reached-least : LeastLaw → (nodes : ℕ) → 1 ≤ nodes → nodes ≤ 16 → (old : Plain) → IsReachable nodes old → (work : Judged) → IsPrepared old.tables work → (form : JudgedSelect) → judged_select_of work ≡ Some form → HasLeast old form
reached-least exists nodes some few old reached work prepared form gives =
    let found = reachable-least old work prepared form gives exists nodes some few reached in
    record { book = (found.0).book; told = (found.0).told; least = found.1 }
