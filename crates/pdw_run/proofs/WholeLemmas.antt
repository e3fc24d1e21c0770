-- Every statement can be executed or is refused, so what was written can be gone on with to a whole output.
use Rattle.std.proofs.Common.{◌≡◌, ◌⊎◌, ℕ, ◌+◌, ◌≤◌, Bool, true, false, List, [], ◌∷◌, ◌++◌, length, take, drop, codes, refl, sym, ap, ◌∙◌, subst, inl, inr, arith, append_assoc, Option, None, Some, IsSome, Result, Ok, Err}
use Rattle.std.proofs.lemmas.List.{take-append-drop}
use native.Mathlib.Decide.{dec_le}
use Rattle.pdw_syntax.specs.declared.query.Select.{Select}
use Rattle.pdw_syntax.specs.declared.statement.Statement.{Statement}
use Rattle.pdw_syntax.specs.declared.statement.Statement.TheVariants as s
use Rattle.pdw_catalog.specs.Catalog.{table_named}
use Rattle.pdw_catalog.specs.Table.{most_rows}
use Rattle.pdw_catalog.specs.declared.table.Table.{Table}
use Rattle.pdw_engine.proofs.JudgedLaws.{IsReady, IsReady-judged}
use Rattle.pdw_engine.proofs.PlainLemmas.{SamePlain-refl}
use Rattle.pdw_engine.specs.Executes.{Does, IsGiven, Selects, SelectsBy}
use Rattle.pdw_engine.specs.Plain.{Plain, budget_set, constant_set, database_of, start, with_handed, with_measured, with_rows, with_table, without_table}
use Rattle.pdw_engine.proofs.Reachable.{reachable-done, reachable-start}
use Rattle.pdw_engine.proofs.ReachablePlans.{LeastLaw}
use Rattle.pdw_engine.specs.Prepared.{IsPrepared, Prepares, is_built, wanted}
use Rattle.pdw_engine.specs.Reachable.{IsReachable}
use Rattle.pdw_answer.specs.declared.answer.Answer.{Answer}
use Rattle.pdw_answer.specs.declared.answer.Answer.TheVariants.{Done, Loaded, Rows}
use Rattle.pdw_answer.specs.declared.refusal.Refusal.TheVariants as refusal
use Rattle.pdw_base.specs.declared.limits.TheConstants.{MOST_FILE_BYTES}
use Rattle.pdw_load.specs.Records.{records_of, faults_of, rows_of}
use Rattle.pdw_load.specs.declared.load_error.LoadError.{LoadError}
use Rattle.pdw_semantics.specs.Answer.{answer as answer_of, order_of}
use Rattle.pdw_semantics.specs.Queries.{query}
use Rattle.pdw_outside.specs.Whole.{IsContent}
use Rattle.pdw_walk.specs.Forms.{judged_select_of}
use Rattle.pdw_walk.specs.Statements.{judgement}
use Rattle.pdw_walk.specs.declared.fault.JudgeFault.{JudgeFault}
use Rattle.pdw_form.specs.declared.judged.Judged.{Judged}
use Rattle.pdw_form.specs.declared.judged.Judged.TheVariants as judged
use Rattle.pdw_form.specs.declared.judged.JudgedSelect.{JudgedSelect}
use Rattle.pdw_run.specs.Output.{BeginsOutput, Cut, End, EndsLine, FailsContent, Finished, Gives, Held, IsTold, IsWhole, Outputs, Refused, Refuses, ScriptWrites, Writes}
use Rattle.pdw_run.specs.Refusal.{limit_line, long_script_line}
use Rattle.pdw_run.specs.RefusalLine.{refusal_line}
use Rattle.pdw_show.specs.Answer.{shown_answer}
use Rattle.pdw_run.specs.Trace.{Trace, cut_at, followed_by, nothing, prints}
use Rattle.pdw_run.proofs.NamedStatements.{judgement_names}
use Rattle.pdw_run.proofs.OrderedRows.{some_ordered}
use Rattle.pdw_run.proofs.Explained.{HasLeast, content-checked, least-printed, least-shown, reached-least}
use Rattle.pdw_run.proofs.RunLemmas.{some_content}
use Rattle.pdw_run.proofs.WrittenScripts.{IsScript-written}
use Rattle.pdw_syntax.specs.Written.{statement_written}
use Rattle.std.proofs.lemmas.Bool.{and_parts}
use Rattle.std.specs.List.{list_all}

-- a statement in a state gives a text or is refused
abbrev Answers : Held → ℕ → Plain → Statement → Type 0
Answers held k old statement = ((trace : Trace) × (new : Plain) × Gives held old statement trace new) ⊎ ((line : List ℕ) × Refuses held k old statement line)

table_there : (found : Option Table) → IsSome found → (table : Table) × (found ≡ Some table)
table_there None there = absurd (cc)
table_there (Some table) there = (table, refl)

-- the rows of a SELECT, in an order that its keys allow
selected : (old : Plain) (select : Select) → (answer : Answer) × Selects old select answer old
selected old select =
    let names = (query (database_of old) select.query).names in
    let found = some_ordered (order_of names select.order) (answer_of (database_of old) select) in (
      Rows (record { names = names; rows = found.0 }),
      record { rows = found.0; lawful = record { rearranged = found.1; ordered = found.2 }; answered = refl; same = SamePlain-refl old },
    )

module _ (held : Held) (k : ℕ) (old : Plain) (statement : Statement) where
  -- what was judged is done, with the file that it wants
  does : (work : Judged) → Prepares old.tables statement work → (file : Option (List ℕ)) (answer : Answer) (new : Plain) → IsGiven work file → IsTold held (wanted work) file → Does old statement work file answer new → Answers held k old statement
  does work prepares file answer new given told done = inl (
    prints (shown_answer answer),
    new,
    record { file = file; answer = answer; answered = record { work = work; prepares = prepares; given = given; does = done }; told = told; printed = refl },
  )

  -- or it fails
  fails : (work : Judged) (file content line : List ℕ) → wanted work ≡ Some file → Prepares old.tables statement work → IsContent (held file) content → FailsContent k old work content line → Answers held k old statement
  fails work file content line wants prepares told fault = inr (line, inr (work, prepares, record { file = file; wants = wants; content = content; told = told; fault = fault }))

  module _ (name file content : List ℕ) (prepares : Prepares old.tables statement (judged.Load name file)) (told : IsContent (held file) content) (table : Table) (there : table_named name old.tables ≡ Some table) where
    load_short : length content ≤ MOST_FILE_BYTES → (faults : List LoadError) → faults_of table (records_of content) ≡ faults → Answers held k old statement
    load_short short (fault ∷ rest) found =
        fails (judged.Load name file) file content (refusal_line k (refusal.Load fault)) refl prepares told (inr (short, refusal.Load fault, (table, there, (rest, found)), refl))
    load_short short [] found =
        elim (dec_le (length (old.rows name) + length (records_of content)) (most_rows table.placing)) [
          | yes room ↦
              does (judged.Load name file) prepares (Some content) (Loaded (length (records_of content))) (with_rows name (rows_of table (records_of content)) old) short told
              (record { table = table; there = there; sound = found; room = room; answered = refl; gained = SamePlain-refl _ })
          | no full ↦
              fails (judged.Load name file) file content (refusal_line k (refusal.Rows (most_rows table.placing))) refl prepares told
              (inr (short, refusal.Rows (most_rows table.placing), (table, there, (found, refl, omega arith)), refl))
        ]

    loads : Answers held k old statement
    loads =
        elim (dec_le (length content) MOST_FILE_BYTES) [
          | yes short ↦ load_short short (faults_of table (records_of content)) refl
          | no long ↦ fails (judged.Load name file) file content (limit_line k (codes "file") MOST_FILE_BYTES) refl prepares told (inl (omega arith, refl))
        ]

  selects : (form : JudgedSelect) → Prepares old.tables statement (judged.Select form) → (select : Select) → statement ≡ s.Select select → Answers held k old statement
  selects form prepares select is =
      let found = selected old select in
      does (judged.Select form) prepares None found.0 old tt tt (subst (λ x. SelectsBy old x found.0 old) (sym is) found.1)

  -- each query of a statement that is prepared has a least plan
  abbrev HaveLeast : Type 0
  HaveLeast = (work : Judged) → IsPrepared old.tables work → (form : JudgedSelect) → judged_select_of work ≡ Some form → HasLeast old form

  explains : (form : JudgedSelect) → Prepares old.tables statement (judged.Explain form) → HasLeast old form → Answers held k old statement
  explains form prepares has =
      let found = least-shown old form has in
      does (judged.Explain form) prepares None found.1 old tt tt (found.0, found.2, SamePlain-refl old)

  prints_file : (form : JudgedSelect) → Prepares old.tables statement (judged.ExplainJson form) → HasLeast old form → Answers held k old statement
  prints_file form prepares has =
      let found = least-printed old form has in
      does (judged.ExplainJson form) prepares None found.1 old tt tt (found.0, found.2, SamePlain-refl old)

  checks : (file : List ℕ) (form : JudgedSelect) → Prepares old.tables statement (judged.CheckPlan file form) → HasLeast old form → (content : List ℕ) → IsContent (held file) content → Answers held k old statement
  checks file form prepares has content told =
      elim (dec_le (length content) MOST_FILE_BYTES) [
        | yes short ↦ let found = content-checked old form has content in does (judged.CheckPlan file form) prepares (Some content) found.0 old short told found.1
        | no long ↦ fails (judged.CheckPlan file form) file content (limit_line k (codes "file") MOST_FILE_BYTES) refl prepares told (inl (omega arith, refl))
      ]

  module _ (written : statement_written statement ≡ true) (leasts : HaveLeast) where
    works : (work : Judged) → Prepares old.tables statement work → IsReady old.tables statement work → Answers held k old statement
    works (judged.Create table) prepares ready = does (judged.Create table) prepares None Done (with_table table old) tt tt (refl, SamePlain-refl _)
    works (judged.Drop name) prepares ready = does (judged.Drop name) prepares None Done (without_table name old) tt tt (refl, SamePlain-refl _)
    works (judged.Load name file) prepares ready =
        let table = table_there (table_named name old.tables) ready in
        let content = some_content (held file) in
        loads name file content.0 prepares content.1 table.0 table.1
    works (judged.Measure name) prepares ready = does (judged.Measure name) prepares None Done (with_measured name old) tt tt (refl, SamePlain-refl _)
    works (judged.Hand name rows cols) prepares ready = does (judged.Hand name rows cols) prepares None Done (with_handed name rows cols old) tt tt (refl, SamePlain-refl _)
    works (judged.Budget amount) prepares ready = does (judged.Budget amount) prepares None Done (budget_set amount old) tt tt (refl, SamePlain-refl _)
    works (judged.Cost part amount) prepares ready = does (judged.Cost part amount) prepares None Done (constant_set part amount old) tt tt (refl, SamePlain-refl _)
    works (judged.Select form) prepares ready = selects form prepares ready.0 ready.1
    works (judged.Explain form) prepares ready = explains form prepares (leasts (judged.Explain form) (statement, written, prepares) form refl)
    works (judged.ExplainJson form) prepares ready = prints_file form prepares (leasts (judged.ExplainJson form) (statement, written, prepares) form refl)
    works (judged.CheckPlan file form) prepares ready =
        let content = some_content (held file) in
        checks file form prepares (leasts (judged.CheckPlan file form) (statement, written, prepares) form refl) content.0 content.1
    works _ prepares ready = absurd ready

    answers_by : (built : Bool) → is_built statement ≡ built → (right : Result Judged JudgeFault) → judgement old.tables statement ≡ right → Answers held k old statement
    answers_by false other right is = inr (refusal_line k refusal.NotBuilt, inl (refusal.NotBuilt, other, refl))
    answers_by true built (Err fault) is =
        inr (refusal_line k (refusal.Judge fault), inl (refusal.Judge fault, (built, is, judgement_names old.tables statement fault is), refl))
    answers_by true built (Ok work) is = works work (record { built = built; right = is }) (IsReady-judged old.tables statement work built is)

    answers : Answers held k old statement
    answers = answers_by (is_built statement) refl (judgement old.tables statement) refl

-- statements have a whole output
abbrev Whole : Held → ℕ → Plain → List Statement → List ℕ → Type 0
Whole held k old statements text = (end : End) × (whole : Trace) × (more : List ℕ) × IsWhole end × Writes held k old statements end whole × (whole.text ≡ text ++ more)

-- one statement after another, from a state that a script reaches
module _ (exists : LeastLaw) (nodes : ℕ) (some : 1 ≤ nodes) (few : nodes ≤ 16) (held : Held) where
  -- a statement gives a text, or is refused
  answers_at : (k : ℕ) (old : Plain) → IsReachable nodes old → (statement : Statement) → statement_written statement ≡ true → Answers held k old statement
  answers_at k old reached statement written = answers held k old statement written (reached-least exists nodes some few old reached)

  reached-next : (old : Plain) → IsReachable nodes old → (statement : Statement) → statement_written statement ≡ true → (trace : Trace) (new : Plain) → Gives held old statement trace new → IsReachable nodes new
  reached-next old reached statement written trace new gives = reachable-done nodes old statement gives.file gives.answer new reached written gives.answered

  some_whole : (k : ℕ) (old : Plain) → IsReachable nodes old → (statements : List Statement) → list_all statement_written statements ≡ true → Whole held k old statements []
  some_whole k old reached [] written = (Finished, nothing, [], tt, refl, refl)
  some_whole k old reached (statement ∷ statements) written =
      let both = and_parts (statement_written statement) (list_all statement_written statements) written in
      by (answers_at k old reached statement both.0) (λ trace new gives. some_whole (k + 1) new (reached-next old reached statement both.0 trace new gives) statements both.1)
    where
      by : Answers held k old statement → ((trace : Trace) (new : Plain) → Gives held old statement trace new → Whole held (k + 1) new statements []) → Whole held k old (statement ∷ statements) []
      by (inl (trace, new, gives)) go_on =
          let rest = go_on trace new gives in
          let whole = followed_by trace rest.1 in
          (rest.0, whole, whole.text, rest.3, inr (trace, rest.1, new, gives, rest.4, refl), refl)
      by (inr (line, refuses)) go_on = (Refused, prints line, line, tt, inl (line, refuses, refl), refl)

  cut_text : (count : ℕ) (trace rest : Trace) → (followed_by trace rest).text ≡ (cut_at count trace).text ++ (drop count trace.text ++ rest.text)
  cut_text count trace rest = ap (λ text. text ++ rest.text) (sym (take-append-drop count trace.text)) ∙ append_assoc (take count trace.text) (drop count trace.text) rest.text

  cut_whole : (k : ℕ) (old : Plain) → IsReachable nodes old → (statements : List Statement) → list_all statement_written statements ≡ true → (out : Trace) → Writes held k old statements Cut out → Whole held k old statements out.text
  cut_whole k old reached [] written out writes = absurd writes
  cut_whole k old reached (statement ∷ statements) written out (inl (trace, count, inl (new, gives), is)) =
      let both = and_parts (statement_written statement) (list_all statement_written statements) written in
      let rest = some_whole (k + 1) new (reached-next old reached statement both.0 trace new gives) statements both.1 in
      subst (λ (o : Trace). Whole held k old (statement ∷ statements) o.text) (sym is)
      (rest.0, followed_by trace rest.1, drop count trace.text ++ rest.1.text, rest.3, inr (trace, rest.1, new, gives, rest.4, refl), cut_text count trace rest.1)
  cut_whole k old reached (statement ∷ statements) written out (inl (trace, count, inr (line, refuses, said), is)) =
      subst (λ (o : Trace). Whole held k old (statement ∷ statements) o.text) (sym is)
      (Refused, trace, drop count trace.text, tt, inl (line, refuses, said), sym (take-append-drop count trace.text))
  cut_whole k old reached (statement ∷ statements) written out (inr (trace, rest, new, gives, writes, is)) =
      let both = and_parts (statement_written statement) (list_all statement_written statements) written in
      let later = cut_whole (k + 1) new (reached-next old reached statement both.0 trace new gives) statements both.1 rest writes in
      subst (λ (o : Trace). Whole held k old (statement ∷ statements) o.text) (sym is) (
        later.0,
        followed_by trace later.1,
        later.2,
        later.3,
        inr (trace, later.1, new, gives, later.4, refl),
        ap (λ text. trace.text ++ text) later.5 ∙ sym (append_assoc trace.text rest.text later.2),
      )

module _ (exists : LeastLaw) (held : Held) (nodes : ℕ) (some : 1 ≤ nodes) (few : nodes ≤ 16) (name script : List ℕ) (told : IsContent (held name) script) where
  -- a line alone
  cut_line : (line : List ℕ) (out : Trace) → ((end : End) (o : Trace) → EndsLine end line o → ScriptWrites held nodes script end o) → EndsLine Cut line out → BeginsOutput held nodes name out.text
  cut_line line out lawful ends = (
    Refused,
    prints line,
    drop ends.0 line,
    tt,
    inl (script, told, lawful Refused (prints line) refl),
    sym (take-append-drop ends.0 line) ∙ ap (λ (o : Trace). o.text ++ drop ends.0 line) (sym ends.1),
  )

  cut_script : (out : Trace) → ScriptWrites held nodes script Cut out → BeginsOutput held nodes name out.text
  cut_script out (inl (long, ends)) = cut_line long_script_line out (λ end o line. inl (long, line)) ends
  cut_script out (inr (inl (short, said, fault, ends))) = cut_line said out (λ end o line. inr (inl (short, said, fault, line))) ends
  cut_script out (inr (inr (inl (short, statements, spelled, writes)))) =
      let whole = cut_whole exists nodes some few held 1 (start nodes) (reachable-start nodes) statements (IsScript-written script statements spelled) out writes in
      (whole.0, whole.1, whole.2, whole.3, inl (script, told, inr (inr (inl (short, statements, spelled, whole.4)))), whole.5)
  cut_script out (inr (inr (inr (stopped, none)))) = absurd (cc)

pub BeginsOutput-cut : LeastLaw → (held : Held) (nodes : ℕ) (name : List ℕ) (out : Trace) → 1 ≤ nodes → nodes ≤ 16 → Outputs held nodes name Cut out → BeginsOutput held nodes name out.text
BeginsOutput-cut exists held nodes name out some few (inl (script, told, writes)) = cut_script exists held nodes some few name script told out writes
BeginsOutput-cut exists held nodes name out some few (inr (unread, none)) = absurd (cc)
