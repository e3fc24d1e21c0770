-- Each statement that holds a SELECT is judged by the walk of that SELECT.
use Rattle.std.proofs.Common.{◌≡◌, Option, Some, None, Result, Ok, Err, refl, sym, ap, subst, ◌∙◌}
use Rattle.std.specs.Bool.{⊤}
use Rattle.std.proofs.lemmas.Option.{none-some}
use Rattle.pdw_syntax.specs.declared.query.Select.{Select}
use Rattle.pdw_syntax.specs.declared.statement.Statement.{Statement}
use Rattle.pdw_syntax.specs.declared.statement.Statement.TheVariants as s
use Rattle.pdw_catalog.specs.Catalog.{Tables}
use Rattle.pdw_walk.specs.Forms.{Judges, judged_select_of, select_of}
use Rattle.pdw_walk.specs.Queries.{select}
use Rattle.pdw_walk.specs.Statements.{answer_of, judgement, statement}
use Rattle.pdw_walk.specs.Walk.{Outcome, Walk, and_then, beginning, done, pure, refused}
use Rattle.pdw_walk.specs.declared.fault.JudgeFault.{JudgeFault}
use Rattle.pdw_form.specs.declared.judged.Judged.{Judged}
use Rattle.pdw_form.specs.declared.judged.Judged.TheVariants as judged
use Rattle.pdw_form.specs.declared.judged.JudgedSelect.{JudgedSelect}

abbrev select_or : Select → Option Select → Select
select_or otherwise None = otherwise
select_or otherwise (Some query) = query

abbrev form_or : JudgedSelect → Option JudgedSelect → JudgedSelect
form_or otherwise None = otherwise
form_or otherwise (Some form) = form

abbrev Refused : Result Judged JudgeFault → Type 0
Refused (Ok work) = ⊥
Refused (Err fault) = ⊤

abbrev work_or : Judged → Result Judged JudgeFault → Judged
work_or otherwise (Ok work) = work
work_or otherwise (Err fault) = otherwise

-- the walk of a SELECT that was done, and the form that it gave, which the judged statement holds
pub record HeldWalk (tables : Tables) (query : Select) (work : Judged) : Type 0 where
  pub form : JudgedSelect
  pub last : Walk
  pub gives : judged_select_of work ≡ Some form
  pub walked : select tables query beginning ≡ done form last

-- a statement whose work is made of the form of its SELECT
module _ (tables : Tables) (query : Select) (make : JudgedSelect → Judged) (gives : (form : JudgedSelect) → judged_select_of (make form) ≡ Some form) where
  made : (o : Outcome JudgedSelect) → select tables query beginning ≡ o → (work : Judged) → answer_of (and_then o (λ form. pure (make form))) ≡ Ok work → HeldWalk tables query work
  made (done form last) walked work right =
      record { form = form; last = last; gives = subst (λ (x : Judged). judged_select_of x ≡ Some form) (ap (work_or (make form)) right) (gives form); walked = walked }
  made (refused fault) walked work right = absurd (subst Refused right tt)

  held : (work : Judged) → answer_of (and_then (select tables query beginning) (λ form. pure (make form))) ≡ Ok work → HeldWalk tables query work
  held = made (select tables query beginning) refl

-- where a statement that holds a SELECT is accepted, that SELECT was walked, and what is judged holds its form
pub held_walk : (tables : Tables) (x : Statement) (query : Select) (work : Judged) → select_of x ≡ Some query → judgement tables x ≡ Ok work → HeldWalk tables query work
unfolding statement
held_walk tables (s.Select found) query work holds right = subst (λ q. HeldWalk tables q work) (ap (select_or found) holds) (held tables found judged.Select (λ form. refl) work right)
held_walk tables (s.Explain found) query work holds right = subst (λ q. HeldWalk tables q work) (ap (select_or found) holds) (held tables found judged.Explain (λ form. refl) work right)
held_walk tables (s.ExplainJson found) query work holds right = subst (λ q. HeldWalk tables q work) (ap (select_or found) holds) (held tables found judged.ExplainJson (λ form. refl) work right)
held_walk tables (s.Profile found) query work holds right = subst (λ q. HeldWalk tables q work) (ap (select_or found) holds) (held tables found judged.Profile (λ form. refl) work right)
held_walk tables (s.CheckPlan file found) query work holds right = subst (λ q. HeldWalk tables q work) (ap (select_or found) holds) (held tables found (judged.CheckPlan file) (λ form. refl) work right)
held_walk tables x query work holds right = absurd (none-some query holds)

-- the form that is judged is the one that the walk gave
pub judged_walk : (tables : Tables) (x : Statement) (query : Select) (form : JudgedSelect) → Judges tables x query form → (w : Walk) × (select tables query beginning ≡ done form w)
judged_walk tables x query form judges =
    let held = held_walk tables x query judges.work judges.holds judges.right in
    (held.last, held.walked ∙ ap (λ found. done found held.last) (ap (form_or form) (sym held.gives ∙ judges.gives)))

-- a SELECT holds itself
pub judges_select : (tables : Tables) (query : Select) (form : JudgedSelect) → judgement tables (s.Select query) ≡ Ok (judged.Select form) → Judges tables (s.Select query) query form
judges_select tables query form right = record { holds = refl; work = judged.Select form; right = right; gives = refl }
