use Rattle.std.proofs.Common.{rules, ℕ, List, subst, sym}
use Rattle.std.specs.Option.{option_copied}
use Rattle.pdw_engine.specs.Executes.{IsGiven}
use Rattle.pdw_engine.specs.Plain.{plain_of}
use Rattle.pdw_engine.specs.Prepared.{wanted}
use Rattle.pdw_run.specs.Output.{Gives, IsTold}
use Rattle.pdw_run.specs.Stops.{Stops}
use Rattle.pdw_run.specs.Trace.{prints}
use Rattle.pdw_run.proofs.PerformLemmas.{Gives-answered, Stops-file, Stops-work}
use Rattle.pdw_run.proofs.perform.execute.Goals as goal

pub answered-requires : goal.answered-requires
answered-requires g c = record {
  prepared = (c.args.statement.now, c.requires, c.in_ok-prepared.ensures.prepared);
  planned = c.in_ok-prepared.ensures.planned;
  given = subst (IsGiven c.in_ok-prepared.prepared.work) (sym c.bytes_of.ensures) c.in-Ok.ensures.given;
}

pub returns-in_err-prepared-clause-stop : goal.returns-in_err-prepared-clause-stop
returns-in_err-prepared-clause-stop g c =
    let stops = c.in_err-prepared.ensures.stop (g.F.Files.bytes c.args.files.now) (g.F.Files.faults c.args.files.now) in
    search (rules, stops)

pub returns-in-Err-clause-stop : goal.returns-in-Err-clause-stop
returns-in-Err-clause-stop g c =
    Stops-file (g.F.Files.bytes c.args.files.now) (plain_of c.args.session.now) c.args.statement.now c.in_ok-prepared.prepared.work c.in_ok-prepared.ensures.prepared (g.F.Files.faults c.args.files.now) (g.F.Files.faults c.wanted_file.new.files) c.in-Err.stop c.in-Err.ensures.stop

pub returns-in_err-answer-clause-stop : goal.returns-in_err-answer-clause-stop
returns-in_err-answer-clause-stop g c =
    let held = g.F.Files.bytes c.args.files.now in
    let before = g.F.Files.faults c.args.files.now in
    let old = plain_of c.args.session.now in
    let work = c.in_ok-prepared.prepared.work in
    let file = option_copied c.bytes_of.result in
    let given = subst (IsGiven work) (sym c.bytes_of.ensures) c.in-Ok.ensures.given in
    let told = subst (IsTold held (wanted work)) (sym c.bytes_of.ensures) c.in-Ok.ensures.told in
    let found = c.in_err-answer.ensures.stop in
    let refused = Stops-work held old c.args.statement.now before work file found.0 c.in_ok-prepared.ensures.prepared given told found.1 in
    let turned = subst (Stops held before before old c.args.statement.now) (sym found.2) refused in
    let stops = subst (λ (after : List ℕ → ℕ). Stops held before after old c.args.statement.now c.in_err-answer.field-0.0) (sym c.in-Ok.ensures.quiet) turned in
    search (rules, stops)

pub returns-clause-text : goal.returns-clause-text
returns-clause-text g c =
    let held = g.F.Files.bytes c.args.files.now in
    let old = plain_of c.args.session.now in
    let work = c.in_ok-prepared.prepared.work in
    let told = subst (IsTold held (wanted work)) (sym c.bytes_of.ensures) c.in-Ok.ensures.told in
    let answered = c.in_ok-answer.ensures.answer c.args.statement.now c.requires c.in_ok-prepared.ensures.prepared in
    subst (λ text. Gives held old c.args.statement.now (prints text) (plain_of c.answered.new.session)) (sym c.in_ok-show_answer.ensures.text)
    (Gives-answered held old c.args.statement.now work c.in_ok-prepared.ensures.prepared (option_copied c.bytes_of.result) c.in_ok-answer.answer (plain_of c.answered.new.session) told answered)
