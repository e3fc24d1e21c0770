use Rattle.std.proofs.Common.{◌≡◌, true}
use Rattle.std.specs.Option.{option_copied}
use Rattle.pdw_answer.specs.declared.answer.Answer.{Answer}
use Rattle.pdw_engine.specs.Executes.{Gives as Answered, StopsWork}
use Rattle.pdw_engine.specs.Plain.{plain_of}
use Rattle.pdw_engine.specs.Prepared.{Prepares}
use Rattle.pdw_engine.specs.declared.stop.Stop.{Stop as EngineStop}
use Rattle.pdw_run.specs.Stops.{StopsAs, stop_of}
use Rattle.pdw_run.specs.declared.stop.Stop.{Stop}
use Rattle.pdw_syntax.specs.Written.{statement_written}
use Rattle.pdw_syntax.specs.declared.statement.Statement.{Statement}
use Rattle.pdw_run.proofs.PerformLemmas.{err-passed, ok-passed}
use Rattle.pdw_run.proofs.perform.answered.Goals as goal

pub returns-clause-answer : goal.returns-clause-answer
returns-clause-answer c =
    ok-passed (λ (e : EngineStop) (d : Stop). d ≡ stop_of e) c.execute.result c.map_err.result
    (λ (answer : Answer). (statement : Statement) → statement_written statement ≡ true → Prepares c.args.session.now.contents.tables statement c.args.prepared.work
    → Answered (plain_of c.args.session.now) statement (option_copied c.args.content) answer (plain_of c.execute.new.self))
    c.map_err.ensures.cases c.execute.ensures.answer

pub returns-clause-stop : goal.returns-clause-stop
returns-clause-stop c =
    let old = plain_of c.args.session.now in
    let file = option_copied c.args.content in
    err-passed (λ (e : EngineStop) (d : Stop). d ≡ stop_of e) c.execute.result c.map_err.result
    (StopsWork old c.args.prepared.work file) (StopsAs old c.args.prepared.work file)
    (λ told stop stops is. (told, stops, is))
    c.map_err.ensures.cases c.execute.ensures.stop
