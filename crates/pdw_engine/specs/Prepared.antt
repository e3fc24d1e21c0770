-- What preparing a statement gives: what the statement does, or why it is refused.
use Rattle.std.specs.Prelude.{◌≡◌, ◌≢◌, ⊤, ℕ, Bool, true, false, List, Option, Some, None, Ok, Err}
use Rattle.pdw_syntax.specs.declared.statement.Statement.{Statement}
use Rattle.pdw_syntax.specs.declared.statement.Statement.TheVariants as s
use Rattle.pdw_syntax.specs.Written.{statement_written}
use Rattle.pdw_catalog.specs.Catalog.{Tables}
use Rattle.pdw_answer.specs.declared.refusal.Refusal.{Refusal}
use Rattle.pdw_answer.specs.declared.refusal.Refusal.TheVariants as refusal
use Rattle.pdw_engine.specs.declared.stop.Stop.{Stop}
use Rattle.pdw_engine.specs.declared.stop.Stop.TheVariants.{Refused, Memory}
use Rattle.pdw_walk.specs.Statements.{judgement}
use Rattle.pdw_walk.specs.declared.fault.JudgeFault.TheVariants as fault
use Rattle.pdw_form.specs.declared.judged.Judged.{Judged}
use Rattle.pdw_form.specs.declared.judged.Judged.TheVariants as judged

-- the forms that are executed
abbrev pub is_built : Statement → Bool
is_built (s.CreateNamed table columns hash) = true
is_built (s.Drop name) = true
is_built (s.Load table file) = true
is_built (s.Measure table) = true
is_built (s.Hand table rows cols) = true
is_built (s.Budget amount) = true
is_built (s.Cost part amount) = true
is_built (s.Select select) = true
is_built (s.Explain select) = true
is_built (s.ExplainJson select) = true
is_built (s.CheckPlan file select) = true
is_built _ = false

-- the file that is wanted
abbrev pub wanted : Judged → Option (List ℕ)
wanted (judged.Load table file) = Some file
wanted (judged.CheckPlan file select) = Some file
wanted _ = None

-- what a statement does over these tables: its form is executed, and the judgement finds no fault
pub record Prepares (tables : Tables) (statement : Statement) (work : Judged) : Type 0 where
  pub built : is_built statement ≡ true
  pub right : judgement tables statement ≡ Ok work

-- a form that is not executed yet is refused before any fault of the judgement
abbrev pub RefusesFirst : Tables → Statement → Refusal → Type 0
RefusesFirst tables statement refusal.NotBuilt = is_built statement ≡ false
RefusesFirst tables statement (refusal.Judge found) = (is_built statement ≡ true) × (judgement tables statement ≡ Err found) × (found ≢ fault.Memory)
RefusesFirst tables statement (refusal.Load found) = ⊥
RefusesFirst tables statement (refusal.Rows most) = ⊥

-- a statement is not prepared: it is refused, or memory was wanted
abbrev pub StopsFirst : Tables → Statement → Stop → Type 0
StopsFirst tables statement (Refused found) = RefusesFirst tables statement found
StopsFirst tables statement Memory = ⊤

-- some statement that the grammar gives does this over these tables
abbrev pub IsPrepared : Tables → Judged → Type 0
IsPrepared tables work = (statement : Statement) × (statement_written statement ≡ true) × Prepares tables statement work
