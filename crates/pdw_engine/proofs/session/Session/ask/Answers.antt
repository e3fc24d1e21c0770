use Rattle.std.proofs.Common.{◌≡◌, ℕ, true, List, Option, Some, Ok, subst, sym, ap}
use Rattle.std.proofs.lemmas.Result.{IfOk-weaker}
use Rattle.pdw_answer.specs.declared.answer.Answer.{Answer}
use Rattle.pdw_engine.proofs.JudgedLaws.{prepared-plannable}
use Rattle.pdw_engine.proofs.LawfulLaws.{Gives-explained, Gives-printed, Gives-selected}
use Rattle.pdw_engine.specs.Executes.{Gives, IsGiven, Printed, Selects, Shown, Shows}
use Rattle.pdw_engine.specs.Plain.{plain_of}
use Rattle.pdw_engine.specs.Prepared.{Prepares}
use Rattle.pdw_engine.specs.Ready.{IsPlannedIn, planned_form}
use Rattle.pdw_form.specs.declared.judged.Judged.TheVariants as judged
use Rattle.pdw_form.specs.declared.judged.Judged.{Judged}
use Rattle.pdw_syntax.specs.Written.{query_written, statement_written}
use Rattle.pdw_syntax.specs.declared.query.Select.{Select}
use Rattle.pdw_syntax.specs.declared.statement.Statement.TheVariants as statements
use Rattle.pdw_syntax.specs.declared.statement.Statement.{Statement}
use Rattle.pdw_walk.specs.Forms.{judged_select_of}
use Rattle.pdw_walk.specs.Statements.{judgement}
use Rattle.pdw_engine.proofs.session.Session.ask.Goals as goal

pub returns-in-Select-clause-answer : goal.returns-in-Select-clause-answer
returns-in-Select-clause-answer c =
    let now = c.args.self.now in
    let form = c.in-Select.form in
    let is : c.args.work.now ≡ judged.Select form = c.in-Select.is in
    IfOk-weaker c.select.result
    (λ (answer : Answer). (s : Select) → query_written s.query ≡ true → judgement now.contents.tables (statements.Select s) ≡ Ok (judged.Select form) → Selects (plain_of now) s answer (plain_of now))
    (λ (answer : Answer). (statement : Statement) → statement_written statement ≡ true → Prepares now.contents.tables statement c.args.work.now → (file : Option (List ℕ)) → IsGiven c.args.work.now file → Gives (plain_of now) statement file answer (plain_of now))
    (λ answer selects statement written prepares file given.
    Gives-selected (plain_of now) (plain_of now) form answer selects file (subst (λ (work : Judged). IsGiven work file) is given) statement written (subst (Prepares now.contents.tables statement) is prepares))
    c.select.ensures

pub returns-in-Select-clause-shown : goal.returns-in-Select-clause-shown
returns-in-Select-clause-shown c =
    let now = c.args.self.now in
    let form = c.in-Select.form in
    IfOk-weaker c.select.result
    (λ (answer : Answer). (s : Select) → query_written s.query ≡ true → judgement now.contents.tables (statements.Select s) ≡ Ok (judged.Select form) → Selects (plain_of now) s answer (plain_of now))
    (λ (answer : Answer). Shows (plain_of now) c.args.work.now c.args.planned.plan answer)
    (λ answer selects. subst (λ (work : Judged). Shows (plain_of now) work c.args.planned.plan answer) (sym c.in-Select.is) tt)
    c.select.ensures

pub explain-requires : goal.explain-requires
explain-requires c =
    let now = c.args.self.now in
    record {
      plannable = prepared-plannable now.contents.tables c.tables_have_columns.ensures c.args.work.now c.requires.prepared c.in-Explain.form (ap judged_select_of c.in-Explain.is);
      planned = subst (λ (work : Judged). IsPlannedIn now (planned_form work) (Some c.args.planned)) c.in-Explain.is c.requires.planned;
    }

pub returns-in-Explain-clause-answer : goal.returns-in-Explain-clause-answer
returns-in-Explain-clause-answer c =
    let now = c.args.self.now in
    let form = c.in-Explain.form in
    IfOk-weaker c.explain.result
    (λ (answer : Answer). Shown (plain_of now) form c.args.planned.plan answer)
    (λ (answer : Answer). (statement : Statement) → statement_written statement ≡ true → Prepares now.contents.tables statement c.args.work.now → (file : Option (List ℕ)) → IsGiven c.args.work.now file → Gives (plain_of now) statement file answer (plain_of now))
    (λ answer shown statement written prepares file given.
    Gives-explained (plain_of now) form answer statement c.args.planned.plan shown file (subst (λ (work : Judged). IsGiven work file) c.in-Explain.is given) (subst (Prepares now.contents.tables statement) c.in-Explain.is prepares))
    c.explain.ensures

pub returns-in-Explain-clause-shown : goal.returns-in-Explain-clause-shown
returns-in-Explain-clause-shown c =
    let now = c.args.self.now in
    let form = c.in-Explain.form in
    IfOk-weaker c.explain.result
    (λ (answer : Answer). Shown (plain_of now) form c.args.planned.plan answer)
    (λ (answer : Answer). Shows (plain_of now) c.args.work.now c.args.planned.plan answer)
    (λ answer shown. subst (λ (work : Judged). Shows (plain_of now) work c.args.planned.plan answer) (sym c.in-Explain.is) shown)
    c.explain.ensures

pub explain_json-requires : goal.explain_json-requires
explain_json-requires c =
    let now = c.args.self.now in
    record {
      plannable = prepared-plannable now.contents.tables c.tables_have_columns.ensures c.args.work.now c.requires.prepared c.in-ExplainJson.form (ap judged_select_of c.in-ExplainJson.is);
      planned = subst (λ (work : Judged). IsPlannedIn now (planned_form work) (Some c.args.planned)) c.in-ExplainJson.is c.requires.planned;
    }

pub returns-in-ExplainJson-clause-answer : goal.returns-in-ExplainJson-clause-answer
returns-in-ExplainJson-clause-answer c =
    let now = c.args.self.now in
    let form = c.in-ExplainJson.form in
    IfOk-weaker c.explain_json.result
    (λ (answer : Answer). Printed (plain_of now) form c.args.planned.plan answer)
    (λ (answer : Answer). (statement : Statement) → statement_written statement ≡ true → Prepares now.contents.tables statement c.args.work.now → (file : Option (List ℕ)) → IsGiven c.args.work.now file → Gives (plain_of now) statement file answer (plain_of now))
    (λ answer shown statement written prepares file given.
    Gives-printed (plain_of now) form answer statement c.args.planned.plan shown file (subst (λ (work : Judged). IsGiven work file) c.in-ExplainJson.is given) (subst (Prepares now.contents.tables statement) c.in-ExplainJson.is prepares))
    c.explain_json.ensures

pub returns-in-ExplainJson-clause-shown : goal.returns-in-ExplainJson-clause-shown
returns-in-ExplainJson-clause-shown c =
    let now = c.args.self.now in
    let form = c.in-ExplainJson.form in
    IfOk-weaker c.explain_json.result
    (λ (answer : Answer). Printed (plain_of now) form c.args.planned.plan answer)
    (λ (answer : Answer). Shows (plain_of now) c.args.work.now c.args.planned.plan answer)
    (λ answer shown. subst (λ (work : Judged). Shows (plain_of now) work c.args.planned.plan answer) (sym c.in-ExplainJson.is) shown)
    c.explain_json.ensures
