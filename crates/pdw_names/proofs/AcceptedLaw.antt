-- The law of names and numbers, of the statements that the judgement accepts.
use Rattle.std.proofs.Common.{◌≡◌, Ok, map}
use Rattle.pdw_syntax.specs.declared.query.Select.{Select}
use Rattle.pdw_syntax.specs.declared.statement.Statement.{Statement}
use Rattle.pdw_syntax.specs.declared.statement.Statement.TheVariants as statement_is
use Rattle.pdw_catalog.specs.Database.{Database}
use Rattle.pdw_names.proofs.NamesLaw.{names_law}
use Rattle.pdw_names.proofs.SelectNames.{select_names, select_order}
use Rattle.pdw_semantics.specs.Answer.{answer, order_of}
use Rattle.pdw_form.specs.Numbered.{numbered_answer}
use Rattle.pdw_semantics.specs.Queries.{query}
use Rattle.pdw_walk.proofs.HeldSelects.{judged_walk, judges_select}
use Rattle.pdw_walk.specs.Forms.{Judges}
use Rattle.pdw_walk.specs.Statements.{judgement}
use Rattle.pdw_form.specs.declared.judged.Judged.TheVariants as judged
use Rattle.pdw_form.specs.declared.judged.JItem.{JItem}
use Rattle.pdw_form.specs.declared.judged.JudgedQuery.{out-JudgedQuery}
use Rattle.pdw_form.specs.declared.judged.JudgedSelect.{JudgedSelect}

-- ---- of any statement that holds a SELECT

module _ (database : Database) (x : Statement) (s : Select) (j : JudgedSelect) (judges : Judges database.tables x s j) where
  pub held_answer : answer database s ≡ numbered_answer database j
  held_answer = let found = judged_walk database.tables x s j judges in names_law database s j found.0 found.1

  -- the output names are those of the meaning
  pub held_names : map (λ (i : JItem). i.name) (out-JudgedQuery j.query).items ≡ (query database s.query).names
  held_names = let found = judged_walk database.tables x s j judges in select_names database s j found.0 found.1

  -- the order keys are those that ORDER BY means
  pub held_order : j.order ≡ order_of (query database s.query).names s.order
  held_order = let found = judged_walk database.tables x s j judges in select_order database s j found.0 found.1

-- ---- of a SELECT by itself

pub accepted : (database : Database) (s : Select) (j : JudgedSelect) → judgement database.tables (statement_is.Select s) ≡ Ok (judged.Select j) → answer database s ≡ numbered_answer database j
accepted database s j e = held_answer database (statement_is.Select s) s j (judges_select database.tables s j e)

pub accepted_names : (database : Database) (s : Select) (j : JudgedSelect) → judgement database.tables (statement_is.Select s) ≡ Ok (judged.Select j) → map (λ (i : JItem). i.name) (out-JudgedQuery j.query).items ≡ (query database s.query).names
accepted_names database s j e = held_names database (statement_is.Select s) s j (judges_select database.tables s j e)

pub accepted_order : (database : Database) (s : Select) (j : JudgedSelect) → judgement database.tables (statement_is.Select s) ≡ Ok (judged.Select j) → j.order ≡ order_of (query database s.query).names s.order
accepted_order database s j e = held_order database (statement_is.Select s) s j (judges_select database.tables s j e)
