-- What CHECK PLAN answers of the bytes that EXPLAIN JSON of the same SELECT printed.
use Rattle.std.specs.Prelude.{◌≡◌, ℕ, List, Ok}
use Rattle.pdw_answer.specs.declared.answer.Answer.{Answer}
use Rattle.pdw_answer.specs.declared.answer.Answer.TheVariants.{Checked}
use Rattle.pdw_answer.specs.declared.answer.PlanVerdict.TheVariants.{Accepted}
use Rattle.pdw_answering.specs.Prints.{PrintsBy, file_on}
use Rattle.pdw_bind.specs.Bind.{bound}
use Rattle.pdw_engine.specs.Executes.{basis_of}
use Rattle.pdw_engine.specs.Plain.{Plain}
use Rattle.pdw_form.specs.declared.judged.Judged.TheVariants as judged
use Rattle.pdw_form.specs.declared.judged.JudgedSelect.{JudgedSelect}
use Rattle.pdw_syntax.specs.declared.query.Select.{Select}
use Rattle.pdw_syntax.specs.declared.statement.Statement.TheVariants as s
use Rattle.pdw_walk.specs.Statements.{judgement}
use Rattle.pdw_ways.specs.declared.plan.Plan.{Plan}

-- the bytes are the plan file of a plan for the query of the SELECT over the plain state, which no other such plan undercuts, and
-- the answer is that this plan is accepted, with what it costs
pub record AcceptsPrinted (state : Plain) (select : Select) (bytes : List ℕ) (answer : Answer) : Type 0 where
  -- the numbered form of the SELECT
  pub form : JudgedSelect
  pub right : judgement state.tables (s.ExplainJson select) ≡ Ok (judged.ExplainJson form)
  -- the plan of the file
  pub plan : Plan
  pub prints : PrintsBy (basis_of state) (bound form.query) plan bytes
  -- the cost is that of the file: the plan's, by the sizes of the groups
  pub accepted : answer ≡ Checked (Accepted (file_on (basis_of state) (bound form.query) prints.reckoned plan prints.lists).cost)
