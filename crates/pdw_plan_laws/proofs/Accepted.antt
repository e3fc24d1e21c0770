-- CHECK PLAN accepts what EXPLAIN JSON prints, over the plain states that a script reaches.
use Rattle.std.proofs.Common.{◌≡◌, ◌∙◌, ◌≤◌, ℕ, true, List, length, Option, Some, None, Ok, refl, sym, ap, subst}
use Rattle.std.proofs.Math.Path.{fun_ext}
use Rattle.pdw_answer.specs.declared.answer.Answer.{Answer}
use Rattle.pdw_answer.specs.declared.answer.Answer.TheVariants as answers
use Rattle.pdw_answer.specs.declared.answer.PlanVerdict.{PlanVerdict}
use Rattle.pdw_answering.proofs.SameBooks.{CostLaw}
use Rattle.pdw_answering.specs.Basis.{Basis}
use Rattle.pdw_answering.specs.Checks.{ChecksBy}
use Rattle.pdw_answering.specs.Prints.{PrintsBy}
use Rattle.pdw_base.specs.declared.limits.TheConstants.{MOST_FILE_BYTES}
use Rattle.pdw_bind.specs.Bind.{bound}
use Rattle.pdw_catalog.specs.Catalog.{Tables}
use Rattle.pdw_engine.proofs.PlainLemmas.{SamePlain-refl}
use Rattle.pdw_engine.proofs.Reachable.{reachable-plannable}
use Rattle.pdw_engine.proofs.SamePlains.{SamePlain-trans}
use Rattle.pdw_engine.specs.Executes.{ChecksContent, Does, Gives, PrintsIn, basis_of}
use Rattle.pdw_engine.specs.Plain.{Plain, SamePlain}
use Rattle.pdw_engine.specs.Reachable.{AllowsPlans, IsReachable}
use Rattle.pdw_engine.specs.declared.settings.Settings.{Settings}
use Rattle.pdw_form.specs.declared.judged.Judged.{Judged}
use Rattle.pdw_form.specs.declared.judged.Judged.TheVariants as judged
use Rattle.pdw_form.specs.declared.judged.JudgedSelect.{JudgedSelect}
use Rattle.pdw_plan_laws.proofs.Files.{CanPlan, LimitsLaw, NumbersLaw, PrintsInRange, ReadsLaw, VerdictLaw, file-accepted, prints-in-range, some-check}
use Rattle.pdw_plan_laws.proofs.Forms.{MadeOf, check-judged, checked-work, one-form, printed-work}
use Rattle.pdw_plan_laws.specs.Accepts.{AcceptsPrinted}
use Rattle.pdw_stats.specs.declared.stats.Stats.{Stats}
use Rattle.pdw_syntax.specs.Written.{query_written}
use Rattle.pdw_syntax.specs.declared.query.Select.{Select}
use Rattle.pdw_syntax.specs.declared.statement.Statement.TheVariants as s
use Rattle.pdw_walk.specs.Forms.{Judges, judged_select_of}
use Rattle.pdw_walk.specs.Queries.{select as walk_of}
use Rattle.pdw_walk.specs.Walk.{beginning, done}

-- queries are planned over the same where plain states are the same
same-basis : (old new : Plain) → SamePlain old new → basis_of new ≡ basis_of old
same-basis old new same =
    ap (λ (tables : Tables). basis_of (record new { tables = tables })) same.tables
    ∙ ap (λ (stats : List ℕ → Option Stats). basis_of (record new { tables = old.tables; stats = stats })) (fun_ext same.stats)
    ∙ ap (λ (nodes : ℕ). basis_of (record new { tables = old.tables; stats = old.stats; nodes = nodes })) same.nodes
    ∙ ap (λ (settings : Settings). basis_of (record old { settings = settings })) same.settings

-- what is printed are the bytes of the answer
same-bytes : {some other : List ℕ} → answers.Json some ≡ answers.Json other → other ≡ some
same-bytes e = cc

module _ (old : Plain) (select : Select) (bytes : List ℕ) (printed : Plain) (gives : Gives old (s.ExplainJson select) None (answers.Json bytes) printed) where
  made-json : MadeOf old.tables select judged.ExplainJson gives.work
  made-json = printed-work old.tables select gives.work gives.prepares.right

  -- EXPLAIN JSON printed a plan of the SELECT's form
  prints-in : PrintsIn old made-json.form (answers.Json bytes) printed
  prints-in = subst (λ (work : Judged). Does old (s.ExplainJson select) work None (answers.Json bytes) printed) made-json.is gives.does

  prints-by : PrintsBy (basis_of old) (bound made-json.form.query) prints-in.0 bytes
  prints-by = subst (PrintsBy (basis_of old) (bound made-json.form.query) prints-in.0) (same-bytes prints-in.1.answered) prints-in.1.printed

  judges-json : Judges old.tables (s.ExplainJson select) select made-json.form
  judges-json = record { holds = refl; work = gives.work; right = gives.prepares.right; gives = subst (λ (work : Judged). judged_select_of work ≡ Some made-json.form) (sym made-json.is) refl }

  -- CHECK PLAN answers, where the bytes are within the limit of files
  module _ (verdicts : VerdictLaw) (room : length bytes ≤ MOST_FILE_BYTES) (file : List ℕ) where
    found-of : (found : PlanVerdict) × ChecksBy (basis_of old) (bound made-json.form.query) bytes found
    found-of = some-check verdicts (basis_of old) (bound made-json.form.query) prints-by.reckoned bytes

    pub checks-answer : (answer : Answer) × Gives printed (s.CheckPlan file select) (Some bytes) answer printed
    checks-answer = (
      answers.Checked found-of.0,
      record {
        work = judged.CheckPlan file made-json.form;
        prepares = record {
          built = refl;
          right = check-judged printed.tables select file made-json.form made-json.last
              (subst (λ (tables : Tables). walk_of tables select beginning ≡ done made-json.form made-json.last) (sym prints-in.2.tables) made-json.walked);
        };
        given = room;
        does = record {
          verdict = found-of.0;
          answered = refl;
          checked = subst (λ (basis : Basis). ChecksBy basis (bound made-json.form.query) bytes found-of.0) (sym (same-basis old printed prints-in.2)) found-of.1;
          same = SamePlain-refl printed;
        };
      },
    )

  module _ (file : List ℕ) (answer : Answer) (later : Plain) (checks : Gives printed (s.CheckPlan file select) (Some bytes) answer later) where
    made-check : MadeOf printed.tables select (judged.CheckPlan file) checks.work
    made-check = checked-work printed.tables select file checks.work checks.prepares.right

    -- CHECK PLAN judged the content for the SELECT's form
    checks-content : ChecksContent printed made-check.form bytes answer later
    checks-content = subst (λ (work : Judged). Does printed (s.CheckPlan file select) work (Some bytes) answer later) made-check.is checks.does

    -- which is the same form
    form-same : made-check.form ≡ made-json.form
    form-same =
        one-form old.tables select made-check.form made-json.form made-check.last made-json.last
        (subst (λ (tables : Tables). walk_of tables select beginning ≡ done made-check.form made-check.last) prints-in.2.tables made-check.walked) made-json.walked

    checks-by : ChecksBy (basis_of old) (bound made-json.form.query) bytes checks-content.verdict
    checks-by =
        subst (λ (basis : Basis). ChecksBy basis (bound made-json.form.query) bytes checks-content.verdict) (same-basis old printed prints-in.2)
        (subst (λ (form : JudgedSelect). ChecksBy (basis_of printed) (bound form.query) bytes checks-content.verdict) form-same checks-content.checked)

    module _ (limits : LimitsLaw) (numbers : NumbersLaw) (reads : ReadsLaw) (whatever : CostLaw) (allows : AllowsPlans old) (written : query_written select.query ≡ true) where
      can-plan : CanPlan (basis_of old) (s.ExplainJson select) select made-json.form
      can-plan = record {
        columns = allows.columns;
        written = written;
        judges = judges-json;
        some = allows.nodes.0;
        few = allows.nodes.1;
        constants = allows.settings.constants;
      }

      prints-told : PrintsInRange (basis_of old) (bound made-json.form.query) prints-in.0 bytes
      prints-told = prints-in-range (basis_of old) (bound made-json.form.query) prints-in.0 bytes prints-by allows.book allows.told allows.ranges

      accepts : AcceptsPrinted old select bytes answer
      accepts = record {
        form = made-json.form;
        right = gives.prepares.right ∙ ap Ok made-json.is;
        plan = prints-in.0;
        prints = prints-told.printed;
        accepted = checks-content.answered ∙ ap answers.Checked (file-accepted limits numbers reads whatever (basis_of old) (s.ExplainJson select) select made-json.form can-plan prints-in.0 bytes prints-told checks-content.verdict checks-by);
      }

      pub accepts-all : AcceptsPrinted old select bytes answer × SamePlain old printed × SamePlain old later
      accepts-all = (accepts, prints-in.2, SamePlain-trans old printed later prints-in.2 checks-content.same)

pub printed-accepted : LimitsLaw → NumbersLaw → ReadsLaw → CostLaw
    → (nodes : ℕ) → 1 ≤ nodes → nodes ≤ 16 → (old : Plain) → IsReachable nodes old → (select : Select) → query_written select.query ≡ true
    → (bytes : List ℕ) (printed : Plain) → Gives old (s.ExplainJson select) None (answers.Json bytes) printed
    → (file : List ℕ) (answer : Answer) (later : Plain) → Gives printed (s.CheckPlan file select) (Some bytes) answer later
    → AcceptsPrinted old select bytes answer × SamePlain old printed × SamePlain old later
printed-accepted limits numbers reads whatever nodes some few old reached select written bytes printed gives file answer later checks =
    accepts-all old select bytes printed gives file answer later checks limits numbers reads whatever (reachable-plannable nodes some few old reached) written

pub printed-answered : VerdictLaw → (old : Plain) (select : Select) (bytes : List ℕ) (printed : Plain) → Gives old (s.ExplainJson select) None (answers.Json bytes) printed → length bytes ≤ MOST_FILE_BYTES
    → (file : List ℕ) → (answer : Answer) × Gives printed (s.CheckPlan file select) (Some bytes) answer printed
printed-answered verdicts old select bytes printed gives room file = checks-answer old select bytes printed gives verdicts room file
