-- How far steps are that run one after the other: those that are done, and those that are left.
use Rattle.std.proofs.Common.{◌≡◌, List, [], ◌∷◌, ◌++◌, map, Option, refl, sym, ap, ◌∙◌, subst, append_assoc, append-nil}
use Rattle.std.proofs.lemmas.List.{map-append}
use Rattle.pdw_answer.specs.declared.answer.StepCount.{StepCount}
use Rattle.pdw_base.proofs.SameBagLaws.{SameBag-trans}
use Rattle.pdw_base.specs.Schema.{Columns}
use Rattle.pdw_catalog.specs.Appliance.{Contents}
use Rattle.pdw_dms.specs.Picker.{Tells}
use Rattle.pdw_dms.specs.declared.picker.PickCall.{PickCall}
use Rattle.pdw_dsql.specs.Follows.{Taken, brought_by, taken_by, taken_in_turn}
use Rattle.pdw_dsql.specs.Typed.{AreTyped, schemas_of}
use Rattle.pdw_dsql.specs.declared.steps.Step.{Step}
use Rattle.pdw_move.specs.declared.placed.Placed.{Placed}
use Rattle.pdw_rules.specs.Stands.{PlacedRows}
use Rattle.pdw_runner.proofs.Asking.{AsksOnce, brings-asked, counted-more, each-more, tells-none, tells-then}
use Rattle.pdw_runner.proofs.Counting.{brings-counted}
use Rattle.pdw_runner.proofs.Moving.{placed-moved}
use Rattle.pdw_runner.proofs.Tabled.{made-over, tables-more}
use Rattle.pdw_runner.specs.Asks.{AsksEach}
use Rattle.pdw_runner.specs.Brought.{Brings}
use Rattle.pdw_runner.specs.Counts.{AreCounted}
use Rattle.pdw_runner.specs.Tables.{AreTables, Hold, taken_over}
use Rattle.pdw_runner.specs.declared.steps.Arrived.{Arrived}
use Rattle.pdw_runner.specs.declared.temporaries.Temporaries.{Temporaries}

module _ (contents : Contents) (steps : List Step) where
  -- what the steps that are done took; their temporary tables stand, they are counted, and were asked for
  pub record Standing (left : List Step) (temps : Temporaries) (counts : List StepCount) (before now : Option (List PickCall)) : Type 0 where
    pub done : List Taken
    pub tables : Hold contents.nodes temps (map (brought_by contents) done)
    pub turn : taken_in_turn contents [] steps ≡ done ++ taken_in_turn contents (map (brought_by contents) done) left
    pub schemas : schemas_of steps ≡ temps.schemas.items ++ schemas_of left
    pub typed : AreTyped contents.tables temps.schemas.items left
    pub counted : AreCounted contents.nodes done counts
    pub asked : Tells before now (AsksEach contents.nodes done counts)

  pub standing-first : (temps : Temporaries) (told : Option (List PickCall)) → temps.placed.items ≡ [] → temps.schemas.items ≡ [] → AreTyped contents.tables [] steps → Standing steps temps [] told told
  standing-first temps told no_rows no_schemas typed = record {
    done = [];
    tables = subst (λ (placed : List Placed). AreTables contents.nodes placed temps.schemas.items []) (sym no_rows) (subst (λ (schemas : List Columns). AreTables contents.nodes [] schemas []) (sym no_schemas) tt);
    turn = refl;
    schemas = ap (λ (schemas : List Columns). schemas ++ schemas_of steps) (sym no_schemas);
    typed = subst (λ (schemas : List Columns). AreTyped contents.tables schemas steps) (sym no_schemas) typed;
    counted = tt;
    asked = tells-none told (AsksEach contents.nodes [] []) refl;
  }

  module _ (step : Step) (rest : List Step) (temps now_temps : Temporaries) (counts : List StepCount) (arrived : Arrived) (before now later : Option (List PickCall)) where
    pub standing-more : Standing (step ∷ rest) temps counts before now → Brings contents.nodes (taken_over contents temps step) arrived now later
        → now_temps.placed.items ≡ temps.placed.items ++ arrived.rows ∷ [] → now_temps.schemas.items ≡ temps.schemas.items ++ step.schema ∷ []
        → Standing rest now_temps (counts ++ arrived.count ∷ []) before later
    standing-more standing brings placed_more schemas_more =
        let n = contents.nodes in
        let done = standing.done in
        let tables = map (brought_by contents) done in
        let taken = taken_by contents tables step in
        let brings_taken : Brings n taken arrived now later = record {
          start = brings.start;
          stands = λ place there. SameBag-trans (brings.stands place there) (made-over contents temps tables standing.tables step.site step.tree place there);
          events = brings.events;
          run = brings.run;
          finished = brings.finished;
          ends = brings.ends;
          rows = brings.rows;
          move = brings.move;
          sent = brings.sent;
          count = brings.count;
          asked = brings.asked;
        } in
        let brought = brought_by contents taken in
        let grown : map (brought_by contents) (done ++ taken ∷ []) ≡ tables ++ brought ∷ [] = map-append (brought_by contents) done (taken ∷ []) in
        let arrives = placed-moved n step.mv step.schema brings.start arrived.rows taken.rows brings_taken.stands brings.rows in
        record {
          done = done ++ taken ∷ [];
          tables = subst (λ (all : List PlacedRows). Hold n now_temps all) (sym grown)
              (subst (λ (placed : List Placed). AreTables n placed now_temps.schemas.items (tables ++ brought ∷ [])) (sym placed_more)
              (subst (λ (schemas : List Columns). AreTables n (temps.placed.items ++ arrived.rows ∷ []) schemas (tables ++ brought ∷ [])) (sym schemas_more)
              (tables-more n temps.placed.items temps.schemas.items tables arrived.rows step.schema brought standing.tables arrives)));
          turn = standing.turn
              ∙ sym (append_assoc done (taken ∷ []) (taken_in_turn contents (tables ++ brought ∷ []) rest))
              ∙ ap (λ (all : List PlacedRows). (done ++ taken ∷ []) ++ taken_in_turn contents all rest) (sym grown);
          schemas = standing.schemas ∙ sym (append_assoc temps.schemas.items (step.schema ∷ []) (schemas_of rest)) ∙ ap (λ (schemas : List Columns). schemas ++ schemas_of rest) (sym schemas_more);
          typed = subst (λ (schemas : List Columns). AreTyped contents.tables schemas rest) (sym schemas_more) standing.typed.1;
          counted = counted-more n done counts taken arrived.count standing.counted (brings-counted n taken arrived now later brings_taken);
          asked = tells-then before now later (AsksEach n done counts) (AsksOnce n taken arrived.count) (AsksEach n (done ++ taken ∷ []) (counts ++ arrived.count ∷ []))
              (each-more n done counts taken arrived.count) standing.asked (brings-asked n taken arrived now later brings_taken);
        }

  -- nothing is left
  module _ (temps : Temporaries) (counts : List StepCount) (before now : Option (List PickCall)) (standing : Standing [] temps counts before now) where
    all-done : taken_in_turn contents [] steps ≡ standing.done
    all-done = standing.turn ∙ append-nil standing.done

    pub standing-tables : Hold contents.nodes temps (map (brought_by contents) (taken_in_turn contents [] steps))
    standing-tables = subst (λ (done : List Taken). Hold contents.nodes temps (map (brought_by contents) done)) (sym all-done) standing.tables

    pub standing-schemas : temps.schemas.items ≡ schemas_of steps
    standing-schemas = sym (standing.schemas ∙ append-nil temps.schemas.items)

    pub standing-counted : AreCounted contents.nodes (taken_in_turn contents [] steps) counts
    standing-counted = subst (λ (done : List Taken). AreCounted contents.nodes done counts) (sym all-done) standing.counted

    pub standing-asked : Tells before now (AsksEach contents.nodes (taken_in_turn contents [] steps) counts)
    standing-asked = subst (λ (done : List Taken). Tells before now (AsksEach contents.nodes done counts)) (sym all-done) standing.asked
