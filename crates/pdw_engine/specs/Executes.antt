-- What a statement answers in a plain state, and the state that it leaves.
use Rattle.std.specs.Prelude.{◌≡◌, ⊤, ℕ, ◌+◌, ◌≤◌, ◌<◌, List, [], ◌∷◌, length, Option, Some, None}
use Rattle.pdw_syntax.specs.declared.query.Select.{Select}
use Rattle.pdw_syntax.specs.declared.statement.Statement.{Statement}
use Rattle.pdw_syntax.specs.declared.statement.Statement.TheVariants as s
use Rattle.pdw_catalog.specs.Catalog.{table_named}
use Rattle.pdw_catalog.specs.Table.{Row, most_rows}
use Rattle.pdw_catalog.specs.declared.table.Table.{Table}
use Rattle.pdw_engine.specs.Plain.{Plain, SamePlain, budget_set, constant_set, database_of, with_handed, with_measured, with_rows, with_table, without_table}
use Rattle.pdw_engine.specs.Prepared.{Prepares, wanted}
use Rattle.pdw_answer.specs.declared.answer.Answer.{Answer}
use Rattle.pdw_answer.specs.declared.answer.Answer.TheVariants.{Done, Loaded, Rows}
use Rattle.pdw_answer.specs.declared.answer.Answer.TheVariants as answers
use Rattle.pdw_answer.specs.declared.plan_text.PlanText.{PlanText}
use Rattle.pdw_answering.specs.Basis.{Basis}
use Rattle.pdw_answer.specs.declared.answer.PlanVerdict.{PlanVerdict}
use Rattle.pdw_answering.specs.Checks.{ChecksBy}
use Rattle.pdw_answering.specs.Explains.{ExplainsBy}
use Rattle.pdw_answering.specs.Prints.{PrintsBy}
use Rattle.pdw_bind.specs.Bind.{bound}
use Rattle.pdw_answer.specs.declared.refusal.Refusal.{Refusal}
use Rattle.pdw_answer.specs.declared.refusal.Refusal.TheVariants as refusal
use Rattle.pdw_engine.specs.declared.stop.Stop.{Stop}
use Rattle.pdw_engine.specs.declared.stop.Stop.TheVariants.{Refused, Memory}
use Rattle.pdw_base.specs.declared.limits.TheConstants.{MOST_FILE_BYTES}
use Rattle.pdw_load.specs.Records.{faults_of, records_of, rows_of}
use Rattle.pdw_load.specs.declared.load_error.LoadError.{LoadError}
use Rattle.pdw_semantics.specs.Answer.{IsLawful}
use Rattle.pdw_semantics.specs.Queries.{query}
use Rattle.pdw_form.specs.declared.judged.Judged.{Judged}
use Rattle.pdw_form.specs.declared.judged.Judged.TheVariants as judged
use Rattle.pdw_form.specs.declared.judged.JudgedSelect.{JudgedSelect}
use Rattle.pdw_ways.specs.declared.plan.Plan.{Plan}

-- the content of the file that is wanted, exactly where one is
abbrev pub IsGiven : Judged → Option (List ℕ) → Type 0
IsGiven work file = given (wanted work) file
  where
    given : Option (List ℕ) → Option (List ℕ) → Type 0
    given None None = ⊤
    given (Some name) (Some content) = length content ≤ MOST_FILE_BYTES
    given _ _ = ⊥

-- ---- answers

-- a content is loaded into a table: no record has a fault, and the table keeps its limit
pub record LoadsContent (old : Plain) (name content : List ℕ) (answer : Answer) (new : Plain) : Type 0 where
  pub table : Table
  pub there : table_named name old.tables ≡ Some table
  pub sound : faults_of table (records_of content) ≡ []
  pub room : length (old.rows name) + length (records_of content) ≤ most_rows table.placing
  pub answered : answer ≡ Loaded (length (records_of content))
  pub gained : SamePlain (with_rows name (rows_of table (records_of content)) old) new

-- SELECT answers the output names, and its rows in an order that ORDER BY allows
pub record Selects (old : Plain) (select : Select) (answer : Answer) (new : Plain) : Type 0 where
  pub rows : List Row
  pub lawful : IsLawful (database_of old) select rows
  pub answered : answer ≡ Rows (record { names = (query (database_of old) select.query).names; rows = rows })
  pub same : SamePlain old new

abbrev pub SelectsBy : Plain → Statement → Answer → Plain → Type 0
SelectsBy old (s.Select select) answer new = Selects old select answer new
SelectsBy old _ answer new = ⊥

-- what the queries of a plain state are planned over
abbrev pub basis_of : Plain → Basis
basis_of state = record {
  tables = state.tables;
  stats = state.stats;
  nodes = state.nodes;
  budget = state.settings.budget;
  constants = state.settings.constants;
}

-- the answer is the text of this plan, which no other plan for the query undercuts
pub record Shown (old : Plain) (form : JudgedSelect) (plan : Plan) (answer : Answer) : Type 0 where
  pub text : PlanText
  pub answered : answer ≡ answers.Plan text
  pub shown : ExplainsBy (basis_of old) (bound form.query) plan text

-- the answer is the plan file of this plan, which no other plan for the query undercuts, with bounds that show it
pub record Printed (old : Plain) (form : JudgedSelect) (plan : Plan) (answer : Answer) : Type 0 where
  pub bytes : List ℕ
  pub answered : answer ≡ answers.Json bytes
  pub printed : PrintsBy (basis_of old) (bound form.query) plan bytes

-- EXPLAIN shows the lines of this plan, and EXPLAIN JSON its plan file
abbrev pub Shows : Plain → Judged → Plan → Answer → Type 0
Shows old (judged.Explain form) plan answer = Shown old form plan answer
Shows old (judged.ExplainJson form) plan answer = Printed old form plan answer
Shows old _ plan answer = ⊤

-- they show some such plan, and change nothing
abbrev pub ExplainsIn : Plain → JudgedSelect → Answer → Plain → Type 0
ExplainsIn old form answer new = (plan : Plan) × Shown old form plan answer × SamePlain old new

abbrev pub PrintsIn : Plain → JudgedSelect → Answer → Plain → Type 0
PrintsIn old form answer new = (plan : Plan) × Printed old form plan answer × SamePlain old new

-- CHECK PLAN answers what is found of a content for the query, and changes nothing
pub record ChecksContent (old : Plain) (form : JudgedSelect) (content : List ℕ) (answer : Answer) (new : Plain) : Type 0 where
  pub verdict : PlanVerdict
  pub answered : answer ≡ answers.Checked verdict
  pub checked : ChecksBy (basis_of old) (bound form.query) content verdict
  pub same : SamePlain old new

abbrev pub ChecksGiven : Plain → JudgedSelect → Option (List ℕ) → Answer → Plain → Type 0
ChecksGiven old form None answer new = ⊥
ChecksGiven old form (Some content) answer new = ChecksContent old form content answer new

abbrev pub LoadsGiven : Plain → List ℕ → Option (List ℕ) → Answer → Plain → Type 0
LoadsGiven old name None answer new = ⊥
LoadsGiven old name (Some content) answer new = LoadsContent old name content answer new

-- what was judged of a statement is done with the file that it wants
abbrev pub Does : Plain → Statement → Judged → Option (List ℕ) → Answer → Plain → Type 0
Does old statement (judged.Create table) file answer new = (answer ≡ Done) × SamePlain (with_table table old) new
Does old statement (judged.Drop name) file answer new = (answer ≡ Done) × SamePlain (without_table name old) new
Does old statement (judged.Load name wanted) file answer new = LoadsGiven old name file answer new
Does old statement (judged.Measure name) file answer new = (answer ≡ Done) × SamePlain (with_measured name old) new
Does old statement (judged.Hand name rows cols) file answer new = (answer ≡ Done) × SamePlain (with_handed name rows cols old) new
Does old statement (judged.Budget amount) file answer new = (answer ≡ Done) × SamePlain (budget_set amount old) new
Does old statement (judged.Cost part amount) file answer new = (answer ≡ Done) × SamePlain (constant_set part amount old) new
Does old statement (judged.Select form) file answer new = SelectsBy old statement answer new
Does old statement (judged.Explain form) file answer new = ExplainsIn old form answer new
Does old statement (judged.ExplainJson form) file answer new = PrintsIn old form answer new
Does old statement (judged.CheckPlan wanted form) file answer new = ChecksGiven old form file answer new
Does old statement _ file answer new = ⊥

-- a statement is judged to be without fault, and done
pub record Gives (old : Plain) (statement : Statement) (file : Option (List ℕ)) (answer : Answer) (new : Plain) : Type 0 where
  pub work : Judged
  pub prepares : Prepares old.tables statement work
  pub given : IsGiven work file
  pub does : Does old statement work file answer new

-- ---- refusals

-- a content is not loaded: its first faulty record is named, or else the limit of the table's rows
abbrev pub RefusesContent : Plain → Table → List ℕ → List ℕ → Refusal → Type 0
RefusesContent old table name content (refusal.Load found) = (rest : List LoadError) × (faults_of table (records_of content) ≡ found ∷ rest)
RefusesContent old table name content (refusal.Rows most) =
    (faults_of table (records_of content) ≡ []) × (most ≡ most_rows table.placing) × (most_rows table.placing < length (old.rows name) + length (records_of content))
RefusesContent old table name content _ = ⊥

-- a content is not loaded: it is refused, or memory was wanted
abbrev pub StopsLoad : Plain → List ℕ → List ℕ → Stop → Type 0
StopsLoad old name content (Refused found) = (table : Table) × (table_named name old.tables ≡ Some table) × RefusesContent old table name content found
StopsLoad old name content Memory = ⊤

-- what was judged can't be done with the file that it wants: LOAD alone can be refused so
abbrev pub RefusesWork : Plain → Judged → Option (List ℕ) → Refusal → Type 0
RefusesWork old (judged.Load name wanted) (Some content) found = (table : Table) × (table_named name old.tables ≡ Some table) × RefusesContent old table name content found
RefusesWork old _ _ found = ⊥

-- it is not done: it is refused, or memory was wanted
abbrev pub StopsWork : Plain → Judged → Option (List ℕ) → Stop → Type 0
StopsWork old work file (Refused found) = RefusesWork old work file found
StopsWork old work file Memory = ⊤
