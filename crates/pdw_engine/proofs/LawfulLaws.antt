-- The table of a SELECT is an answer that its meaning allows.
use Rattle.std.proofs.Common.{◌≡◌, ◌∙◌, ℕ, ◌≤◌, Bool, true, false, cond, List, [], ◌∷◌, length, Option, Some, None, Ok, IsPermutation, sym, ap, subst}
use Rattle.std.specs.Str.{bytes_eq}
use Rattle.std.proofs.lemmas.Option.{none-some}
use Rattle.pdw_syntax.specs.declared.query.Select.{Select}
use Rattle.pdw_syntax.specs.declared.statement.Statement.{Statement}
use Rattle.pdw_syntax.specs.declared.statement.Statement.TheVariants as s
use Rattle.pdw_sound.proofs.TreeLaw.{tree_rows_are}
use Rattle.pdw_form.specs.Sound.{HaveColumns}
use Rattle.pdw_syntax.specs.Written.{query_written, statement_written}
use Rattle.pdw_catalog.specs.Appliance.{Bags, Contents, IsSound, StoresAll}
use Rattle.pdw_catalog.specs.Catalog.{Tables, table_named}
use Rattle.pdw_catalog.specs.Database.{undivided}
use Rattle.pdw_catalog.specs.declared.table.Table.{Table}
use Rattle.pdw_engine.proofs.JudgedLaws.{IsReady-judged}
use Rattle.pdw_engine.proofs.PlainLemmas.{SamePlain-refl}
use Rattle.pdw_engine.specs.Executes.{Gives, IsGiven, Printed, Selects, SelectsBy, Shown}
use Rattle.pdw_engine.specs.Plain.{Plain, plain_of}
use Rattle.pdw_engine.specs.Prepared.{Prepares}
use Rattle.pdw_engine.specs.Selected.{SelectedBy}
use Rattle.pdw_engine.specs.State.{State}
use Rattle.pdw_answer.specs.declared.answer.Answer.{Answer}
use Rattle.pdw_answer.specs.declared.answer.Answer.TheVariants.{Rows}
use Rattle.pdw_answer.specs.declared.answer.Table1.{Table1}
use Rattle.pdw_names.proofs.AcceptedLaw.{accepted_names, accepted_order}
use Rattle.pdw_semantics.specs.Answer.{IsOrdered}
use Rattle.pdw_walk.specs.Statements.{judgement}
use Rattle.pdw_ways.specs.declared.plan.Plan.{Plan}
use Rattle.pdw_form.specs.declared.judged.Judged.TheVariants as judged
use Rattle.pdw_form.specs.declared.judged.JudgedSelect.{JudgedSelect}

-- ---- tables have columns

some_value : {A : Type 0} → A → Option A → A
some_value otherwise None = otherwise
some_value otherwise (Some a) = a

same_some : {A : Type 0} (a b : A) → Some a ≡ Some b → a ≡ b
unfolding some_value
same_some a b e = ap (some_value a) e

stored_columns : (n : ℕ) (tables : Tables) (bags : List Bags) → StoresAll n tables bags → HaveColumns tables
stored_columns n [] bags stores name table found = absurd (none-some table found)
stored_columns n (entry ∷ tables) [] stores name table found = absurd stores
stored_columns n (entry ∷ tables) (b ∷ bags) (named, stored, rest) name table found = by (bytes_eq name entry.0) (stored_columns n tables bags rest name table) found
  where
    by : (t : Bool) → (table_named name tables ≡ Some table → 1 ≤ length table.columns) → cond t (Some entry.1) (table_named name tables) ≡ Some table → 1 ≤ length table.columns
    by true later found = subst (λ (t : Table). 1 ≤ length t.columns) (same_some entry.1 table found) stored.shape.some
    by false later found = later found

pub HaveColumns-sound : (contents : Contents) → IsSound contents → HaveColumns contents.tables
HaveColumns-sound contents sound = stored_columns contents.nodes contents.tables contents.bags sound.stored

-- ---- the rows of a SELECT

-- by the law of the tree, and by those of the output names and of the order keys
pub Selects-selected : (state : State) → HaveColumns state.contents.tables → (select : Select) → query_written select.query ≡ true → (form : JudgedSelect) → judgement state.contents.tables (s.Select select) ≡ Ok (judged.Select form)
    → (table : Table1) → SelectedBy (undivided state.contents) form table → Selects (plain_of state) select (Rows table) (plain_of state)
Selects-selected state have select written form is table selected =
    let database = undivided state.contents in
    record {
      rows = table.rows;
      lawful = record {
        rearranged = subst (λ rows. IsPermutation rows table.rows) (tree_rows_are database select form have written is) selected.rearranged;
        ordered = subst (λ keys. IsOrdered keys table.rows) (accepted_order database select form is) selected.ordered;
      };
      answered = λ i. Rows (record { names = (selected.names ∙ accepted_names database select form is) i; rows = table.rows });
      same = SamePlain-refl (plain_of state);
    }

-- what is judged to be a SELECT is one
pub Gives-selected : (old new : Plain) (form : JudgedSelect) (answer : Answer) → ((select : Select) → query_written select.query ≡ true → judgement old.tables (s.Select select) ≡ Ok (judged.Select form) → Selects old select answer new)
    → (file : Option (List ℕ)) → IsGiven (judged.Select form) file → (statement : Statement) → statement_written statement ≡ true → Prepares old.tables statement (judged.Select form) → Gives old statement file answer new
Gives-selected old new form answer selects file given statement written prepares =
    let ready = IsReady-judged old.tables statement (judged.Select form) prepares.built prepares.right in
    record {
      work = judged.Select form;
      prepares = prepares;
      given = given;
      does = subst (λ (is : Statement). statement_written is ≡ true → judgement old.tables is ≡ Ok (judged.Select form) → SelectsBy old is answer new) (sym ready.1) (selects ready.0) written prepares.right;
    }

-- what is judged to be an EXPLAIN, an EXPLAIN JSON or a CHECK PLAN answers so
module _ (plain : Plain) (form : JudgedSelect) (answer : Answer) (statement : Statement) where
  pub Gives-explained : (plan : Plan) → Shown plain form plan answer → (file : Option (List ℕ)) → IsGiven (judged.Explain form) file → Prepares plain.tables statement (judged.Explain form) → Gives plain statement file answer plain
  Gives-explained plan shown file given prepares =
      record { work = judged.Explain form; prepares = prepares; given = given; does = (plan, shown, SamePlain-refl plain) }

  pub Gives-printed : (plan : Plan) → Printed plain form plan answer → (file : Option (List ℕ)) → IsGiven (judged.ExplainJson form) file → Prepares plain.tables statement (judged.ExplainJson form) → Gives plain statement file answer plain
  Gives-printed plan printed file given prepares =
      record { work = judged.ExplainJson form; prepares = prepares; given = given; does = (plan, printed, SamePlain-refl plain) }
