-- The statements that hold a SELECT, and the numbered form that the judgement gives it.
use Rattle.std.specs.Prelude.{◌≡◌, Option, Some, None, Ok}
use Rattle.pdw_syntax.specs.declared.query.Select.{Select}
use Rattle.pdw_syntax.specs.declared.statement.Statement.{Statement}
use Rattle.pdw_syntax.specs.declared.statement.Statement.TheVariants as s
use Rattle.pdw_catalog.specs.Catalog.{Tables}
use Rattle.pdw_walk.specs.Statements.{judgement}
use Rattle.pdw_form.specs.declared.judged.Judged.{Judged}
use Rattle.pdw_form.specs.declared.judged.Judged.TheVariants as judged
use Rattle.pdw_form.specs.declared.judged.JudgedSelect.{JudgedSelect}

-- the SELECT that a statement holds
abbrev pub select_of : Statement → Option Select
select_of (s.Select select) = Some select
select_of (s.Explain select) = Some select
select_of (s.ExplainJson select) = Some select
select_of (s.Profile select) = Some select
select_of (s.CheckPlan file select) = Some select
select_of _ = None

-- the numbered form that a judged statement holds
abbrev pub judged_select_of : Judged → Option JudgedSelect
judged_select_of (judged.Select form) = Some form
judged_select_of (judged.Explain form) = Some form
judged_select_of (judged.ExplainJson form) = Some form
judged_select_of (judged.Profile form) = Some form
judged_select_of (judged.CheckPlan file form) = Some form
judged_select_of _ = None

-- a statement that holds this SELECT is accepted over the tables, and what is judged holds this form
pub record Judges (tables : Tables) (statement : Statement) (select : Select) (form : JudgedSelect) : Type 0 where
  pub holds : select_of statement ≡ Some select
  pub work : Judged
  pub right : judgement tables statement ≡ Ok work
  pub gives : judged_select_of work ≡ Some form
