-- Over files that tell every name, no script has both a finished output and one that ends with a refusal.
use Rattle.std.proofs.Common.{◌≡◌, inl, inr, ℕ, ◌≤◌, ◌+◌, List, [], ◌∷◌, length, refl, sym, ap, subst, ◌∙◌, arith, Option, Some, None, IsSome, Result, Ok, Err, true≢false}
use Rattle.std.specs.Bool.{⊤}
use Rattle.pdw_base.proofs.SameBagLaws.{SameBag-length}
use Rattle.pdw_catalog.specs.Catalog.{table_named}
use Rattle.pdw_catalog.specs.Table.{most_rows}
use Rattle.pdw_catalog.specs.declared.table.Table.{Table}
use Rattle.pdw_engine.proofs.SamePlains.{does_same}
use Rattle.pdw_engine.proofs.PlainLemmas.{SamePlain-refl}
use Rattle.pdw_engine.specs.Executes.{Does, IsGiven, LoadsContent, RefusesContent}
use Rattle.pdw_engine.specs.Plain.{Plain, SamePlain, start}
use Rattle.pdw_engine.specs.Prepared.{Prepares, RefusesFirst, wanted}
use Rattle.pdw_answer.specs.declared.answer.Answer.{Answer}
use Rattle.pdw_answer.specs.declared.refusal.Refusal.{Refusal}
use Rattle.pdw_answer.specs.declared.refusal.Refusal.TheVariants as refusal
use Rattle.pdw_base.specs.declared.limits.TheConstants.{MOST_FILE_BYTES}
use Rattle.pdw_form.specs.declared.judged.Judged.{Judged}
use Rattle.pdw_form.specs.declared.judged.Judged.TheVariants as judged
use Rattle.pdw_load.specs.Records.{faults_of, records_of}
use Rattle.pdw_load.specs.declared.load_error.LoadError.{LoadError}
use Rattle.pdw_outside.specs.Whole.{IsContent}
use Rattle.pdw_run.proofs.ReadingLemmas.{IsScript-faultless, IsScript-unique}
use Rattle.pdw_run.specs.Output.{FailsContent, Fails, Finished, Gives, Held, IsTold, Outputs, Refused, Refuses, ScriptWrites, Writes}
use Rattle.pdw_run.specs.Trace.{Trace}
use Rattle.pdw_syntax.specs.declared.statement.Statement.{Statement}
use Rattle.pdw_walk.specs.Statements.{judgement}
use Rattle.pdw_walk.specs.declared.fault.JudgeFault.{JudgeFault}

-- ---- two answers of one thing

one_content : (told : Option (List ℕ)) → IsSome told → (some other : List ℕ) → IsContent told some → IsContent told other → some ≡ other
one_content None there some other first second = absurd (cc)
one_content (Some content) there some other first second = first ∙ sym second

abbrev work_or : Judged → Result Judged JudgeFault → Judged
work_or otherwise (Ok work) = work
work_or otherwise (Err fault) = otherwise

one_work : (answer : Result Judged JudgeFault) (some other : Judged) → answer ≡ Ok some → answer ≡ Ok other → some ≡ other
one_work answer some other first second = ap (work_or some) (sym first ∙ second)

abbrev IsOk : Result Judged JudgeFault → Type 0
IsOk (Ok work) = ⊤
IsOk (Err fault) = ⊥

not_both_judged : (answer : Result Judged JudgeFault) (work : Judged) (fault : JudgeFault) → answer ≡ Ok work → answer ≡ Err fault → ⊥
not_both_judged answer work fault first second = subst IsOk (sym first ∙ second) tt

not_both_faults : (faults : List LoadError) (fault : LoadError) (rest : List LoadError) → faults ≡ [] → faults ≡ fault ∷ rest → ⊥
not_both_faults faults fault rest first second = absurd (cc)

-- ---- one statement

module _ (some other : Plain) (same : SamePlain some other) where
  prepares_same : (statement : Statement) (work : Judged) → Prepares other.tables statement work → Prepares some.tables statement work
  prepares_same statement work prepares = subst (λ tables. Prepares tables statement work) same.tables prepares

  -- what is prepared is not refused before it is executed
  not_refused_first : (statement : Statement) (work : Judged) → Prepares some.tables statement work → (fault : Refusal) → RefusesFirst other.tables statement fault → ⊥
  not_refused_first statement work prepares refusal.NotBuilt refuses = true≢false (sym prepares.built ∙ refuses)
  not_refused_first statement work prepares (refusal.Judge found) refuses =
      not_both_judged (judgement other.tables statement) work found (ap (λ tables. judgement tables statement) same.tables ∙ prepares.right) refuses.1
  not_refused_first statement work prepares (refusal.Load found) refuses = refuses
  not_refused_first statement work prepares (refusal.Rows most) refuses = refuses

  one_table : (name : List ℕ) (found table : Table) → table_named name some.tables ≡ Some found → table_named name other.tables ≡ Some table → found ≡ table
  one_table name found table first second = ap (λ (o : Option Table). value found o) (sym first ∙ ap (table_named name) (sym same.tables) ∙ second)
    where
      value : Table → Option Table → Table
      value otherwise None = otherwise
      value otherwise (Some t) = t

  -- a content that is loaded is not refused
  not_refused_content : (name content : List ℕ) (answer : Answer) (new : Plain) (loads : LoadsContent some name content answer new) (table : Table) → table_named name other.tables ≡ Some table
      → (fault : Refusal) → RefusesContent other table name content fault → ⊥
  not_refused_content name content answer new loads table there (refusal.Load found) refuses =
      not_both_faults (faults_of table (records_of content)) found refuses.0
      (subst (λ t. faults_of t (records_of content) ≡ []) (one_table name loads.table table loads.there there) loads.sound) refuses.1
  not_refused_content name content answer new loads table there (refusal.Rows most) refuses =
      let room = subst (λ (t : Table). length (some.rows name) + length (records_of content) ≤ most_rows t.placing) (one_table name loads.table table loads.there there) loads.room in
      let rows = SameBag-length (same.rows name) in
      let full = refuses.2 in
      omega (arith, room, rows, full)
  not_refused_content name content answer new loads table there refusal.NotBuilt refuses = refuses
  not_refused_content name content answer new loads table there (refusal.Judge found) refuses = refuses

  -- what is done with a content does not fail with it
  not_failed : (statement : Statement) (work : Judged) (content : List ℕ) (answer : Answer) (new : Plain) → length content ≤ MOST_FILE_BYTES → Does some statement work (Some content) answer new
      → (k : ℕ) (line : List ℕ) → FailsContent k other work content line → ⊥
  not_failed statement work content answer new short does k line (inl (long, is)) = omega (arith, short, long)
  not_failed statement (judged.Load name file) content answer new short does k line (inr (fits, fault, (table, there, refuses), is)) =
      not_refused_content name content answer new does table there fault refuses
  not_failed statement _ content answer new short does k line (inr (fits, fault, refuses, is)) = refuses

abbrev some_value : List ℕ → Option (List ℕ) → List ℕ
some_value otherwise None = otherwise
some_value otherwise (Some x) = x

module _ (held : Held) (told : (name : List ℕ) → IsSome (held name)) (some other : Plain) (same : SamePlain some other) (statement : Statement) where
  -- what is done with the file that it wants does not fail
  not_done_and_failed : (work : Judged) (file : Option (List ℕ)) (answer : Answer) (new : Plain) → IsGiven work file → IsTold held (wanted work) file → Does some statement work file answer new
      → (k : ℕ) (line : List ℕ) → Fails held k other work line → ⊥
  not_done_and_failed (judged.Load name wants) None answer new given tells does k line fails = absurd tells
  not_done_and_failed (judged.Load name wants) (Some content) answer new given tells does k line fails =
      let is = ap (some_value wants) fails.wants in
      let read = subst (λ file. IsContent (held file) fails.content) (sym is) fails.told in
      let found = one_content (held wants) (told wants) content fails.content tells read in
      not_failed some other same statement (judged.Load name wants) content answer new given does k line
      (subst (λ c. FailsContent k other (judged.Load name wants) c line) (sym found) fails.fault)
  not_done_and_failed (judged.CheckPlan wants form) None answer new given tells does k line fails = absurd tells
  not_done_and_failed (judged.CheckPlan wants form) (Some content) answer new given tells does k line fails =
      let is = ap (some_value wants) fails.wants in
      let read = subst (λ file. IsContent (held file) fails.content) (sym is) fails.told in
      let found = one_content (held wants) (told wants) content fails.content tells read in
      not_failed some other same statement (judged.CheckPlan wants form) content answer new given does k line
      (subst (λ c. FailsContent k other (judged.CheckPlan wants form) c line) (sym found) fails.fault)
  not_done_and_failed _ file answer new given tells does k line fails = absurd (cc)

  -- a statement that gives its text is not refused
  not_refused : (trace : Trace) (new : Plain) (k : ℕ) (line : List ℕ) → Gives held some statement trace new → Refuses held k other statement line → ⊥
  not_refused trace new k line gives (inl (fault, refuses, is)) = not_refused_first some other same statement gives.answered.work gives.answered.prepares fault refuses
  not_refused trace new k line gives (inr (work, prepares, fails)) =
      let is = one_work (judgement some.tables statement) gives.answered.work work gives.answered.prepares.right (prepares_same some other same statement work prepares).right in
      not_done_and_failed gives.answered.work gives.file gives.answer new gives.answered.given gives.told gives.answered.does k line
      (subst (λ w. Fails held k other w line) (sym is) fails)

  told_same : (work : Judged) (one two : Option (List ℕ)) → IsTold held (wanted work) one → IsTold held (wanted work) two → one ≡ two
  told_same work = by (wanted work)
    where
      by : (wants : Option (List ℕ)) (one two : Option (List ℕ)) → IsTold held wants one → IsTold held wants two → one ≡ two
      by None None None first second = refl
      by (Some name) (Some content) (Some more) first second = ap Some (one_content (held name) (told name) content more first second)
      by None (Some content) two first second = absurd first
      by None None (Some content) first second = absurd second
      by (Some name) None two first second = absurd first
      by (Some name) (Some content) None first second = absurd second

  -- and leaves one state
  gives_same : (one two : Trace) (left right : Plain) → Gives held some statement one left → Gives held other statement two right → SamePlain left right
  gives_same one two left right first second =
      let is = one_work (judgement some.tables statement) first.answered.work second.answered.work first.answered.prepares.right
      (prepares_same some other same statement second.answered.work second.answered.prepares).right in
      let file = told_same first.answered.work first.file second.file first.told (subst (λ work. IsTold held (wanted work) second.file) (sym is) second.told) in
      let does = subst (λ work. Does other statement work second.file second.answer right) (sym is) second.answered.does in
      does_same some other same statement first.answer second.answer left right first.answered.work first.file first.answered.does
      (subst (λ f. Does other statement first.answered.work f second.answer right) (sym file) does)

-- ---- statements, a script

module _ (held : Held) (told : (name : List ℕ) → IsSome (held name)) where
  not_both_written : (statements : List Statement) (k : ℕ) (some other : Plain) → SamePlain some other → (one two : Trace) → Writes held k some statements Finished one → Writes held k other statements Refused two → ⊥
  not_both_written [] k some other same one two finished refused = refused
  not_both_written (statement ∷ statements) k some other same one two (inl ends) refused = ends
  not_both_written (statement ∷ statements) k some other same one two (inr (trace, rest, new, gives, writes, is)) (inl (line, refuses, said)) =
      not_refused held told some other same statement trace new k line gives refuses
  not_both_written (statement ∷ statements) k some other same one two (inr (trace, rest, new, gives, writes, is)) (inr (text, more, next, given, later, was)) =
      not_both_written statements (k + 1) new next (gives_same held told some other same statement trace text new next gives given) rest more writes later

  not_both_scripts : (nodes : ℕ) (script : List ℕ) (one two : Trace) → ScriptWrites held nodes script Finished one → ScriptWrites held nodes script Refused two → ⊥
  not_both_scripts nodes script one two (inl (long, ends)) refused = ends
  not_both_scripts nodes script one two (inr (inl (short, line, fault, ends))) refused = ends
  not_both_scripts nodes script one two (inr (inr (inl (short, statements, spelled, writes)))) (inl (long, ends)) = omega (arith, short, long)
  not_both_scripts nodes script one two (inr (inr (inl (short, statements, spelled, writes)))) (inr (inl (fits, line, fault, ends))) =
      IsScript-faultless script line statements spelled fault
  not_both_scripts nodes script one two (inr (inr (inl (short, statements, spelled, writes)))) (inr (inr (inl (fits, others, read, refused)))) =
      not_both_written statements 1 (start nodes) (start nodes) (SamePlain-refl (start nodes)) one two writes
      (subst (λ xs. Writes held 1 (start nodes) xs Refused two) (IsScript-unique script others statements read spelled) refused)
  not_both_scripts nodes script one two (inr (inr (inl (short, statements, spelled, writes)))) (inr (inr (inr (stopped, none)))) = absurd (cc)
  not_both_scripts nodes script one two (inr (inr (inr (stopped, none)))) refused = absurd (cc)

pub one_end : (held : Held) (nodes : ℕ) (name : List ℕ) (one two : Trace) → ((file : List ℕ) → IsSome (held file)) → Outputs held nodes name Finished one → ¬ (Outputs held nodes name Refused two)
one_end held nodes name one two told (inl (script, is, writes)) (inl (other, was, refused)) =
    not_both_scripts held told nodes script one two writes
    (subst (λ s. ScriptWrites held nodes s Refused two) (one_content (held name) (told name) other script was is) refused)
one_end held nodes name one two told (inl (script, is, writes)) (inr (unread, none)) = absurd (cc)
one_end held nodes name one two told (inr (unread, none)) refused = absurd (cc)
