-- EXPLAIN JSON and CHECK PLAN of a SELECT are judged by the walk of this SELECT, so both have its one numbered form.
use Rattle.std.proofs.Common.{◌≡◌, ◌∙◌, ℕ, List, Result, Ok, Err, refl, sym, ap, subst}
use Rattle.std.specs.Bool.{⊤}
use Rattle.pdw_catalog.specs.Catalog.{Tables}
use Rattle.pdw_form.specs.declared.judged.Judged.{Judged}
use Rattle.pdw_form.specs.declared.judged.Judged.TheVariants as judged
use Rattle.pdw_form.specs.declared.judged.JudgedSelect.{JudgedSelect}
use Rattle.pdw_syntax.specs.declared.query.Select.{Select}
use Rattle.pdw_syntax.specs.declared.statement.Statement.TheVariants as s
use Rattle.pdw_walk.proofs.Outcomes.{done_value}
use Rattle.pdw_walk.specs.Queries.{select}
use Rattle.pdw_walk.specs.Statements.{answer_of, judgement, statement}
use Rattle.pdw_walk.specs.Walk.{Outcome, Walk, and_then, beginning, done, pure, refused}
use Rattle.pdw_walk.specs.declared.fault.JudgeFault.{JudgeFault}

abbrev Refused : Result Judged JudgeFault → Type 0
Refused (Ok work) = ⊥
Refused (Err fault) = ⊤

abbrev work_or : Judged → Result Judged JudgeFault → Judged
work_or otherwise (Ok work) = work
work_or otherwise (Err fault) = otherwise

-- what is judged is made of the form that the walk of the SELECT gave
pub record MadeOf (tables : Tables) (query : Select) (make : JudgedSelect → Judged) (work : Judged) : Type 0 where
  pub form : JudgedSelect
  pub last : Walk
  pub walked : select tables query beginning ≡ done form last
  pub is : work ≡ make form

module _ (tables : Tables) (query : Select) where
  made : (make : JudgedSelect → Judged) (o : Outcome JudgedSelect) → select tables query beginning ≡ o → (work : Judged) → answer_of (and_then o (λ form. pure (make form))) ≡ Ok work → MadeOf tables query make work
  made make (done form last) walked work right = record { form = form; last = last; walked = walked; is = sym (ap (work_or (make form)) right) }
  made make (refused fault) walked work right = absurd (subst Refused right tt)

  pub printed-work : (work : Judged) → judgement tables (s.ExplainJson query) ≡ Ok work → MadeOf tables query judged.ExplainJson work
  unfolding statement
  printed-work work right = made judged.ExplainJson (select tables query beginning) refl work right

  pub checked-work : (file : List ℕ) (work : Judged) → judgement tables (s.CheckPlan file query) ≡ Ok work → MadeOf tables query (judged.CheckPlan file) work
  unfolding statement
  checked-work file work right = made (judged.CheckPlan file) (select tables query beginning) refl work right

  -- where the walk was done, CHECK PLAN of the SELECT is judged to have the form that it gave
  pub check-judged : (file : List ℕ) (form : JudgedSelect) (w : Walk) → select tables query beginning ≡ done form w → judgement tables (s.CheckPlan file query) ≡ Ok (judged.CheckPlan file form)
  unfolding statement
  check-judged file form w walked = ap (λ (o : Outcome JudgedSelect). answer_of (and_then o (λ found. pure (judged.CheckPlan file found)))) walked

  pub one-form : (first second : JudgedSelect) (w v : Walk) → select tables query beginning ≡ done first w → select tables query beginning ≡ done second v → first ≡ second
  one-form first second w v one two = done_value (sym one ∙ two)
