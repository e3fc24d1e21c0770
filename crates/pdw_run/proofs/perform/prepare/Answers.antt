use Rattle.std.proofs.Common.{◌≡◌, ℕ, List, subst, sym}
use Rattle.pdw_engine.specs.Plain.{plain_of}
use Rattle.pdw_engine.specs.Prepared.{Prepares, StopsFirst}
use Rattle.pdw_engine.specs.Ready.{HasPlan, Ready}
use Rattle.pdw_engine.specs.declared.stop.Stop.{Stop as EngineStop}
use Rattle.pdw_run.specs.Output.{Held}
use Rattle.pdw_run.specs.Stops.{Stops, stop_of}
use Rattle.pdw_run.specs.declared.stop.Stop.{Stop}
use Rattle.pdw_run.proofs.PerformLemmas.{Stops-first, err-passed, ok-passed}
use Rattle.pdw_run.proofs.perform.prepare.Goals as goal

pub returns-clause-prepared : goal.returns-clause-prepared
returns-clause-prepared c =
    ok-passed (λ (e : EngineStop) (d : Stop). d ≡ stop_of e) c.prepare.result c.map_err.result (λ (p : Ready). Prepares c.args.session.now.contents.tables c.args.statement.now p.work) c.map_err.ensures.cases c.prepare.ensures.prepared

pub returns-clause-planned : goal.returns-clause-planned
returns-clause-planned c =
    ok-passed (λ (e : EngineStop) (d : Stop). d ≡ stop_of e) c.prepare.result c.map_err.result (HasPlan c.args.session.now) c.map_err.ensures.cases c.prepare.ensures.planned

pub returns-clause-stop : goal.returns-clause-stop
returns-clause-stop c =
    let old = plain_of c.args.session.now in
    let statement = c.args.statement.now in
    err-passed (λ (e : EngineStop) (d : Stop). d ≡ stop_of e) c.prepare.result c.map_err.result
    (StopsFirst c.args.session.now.contents.tables statement)
    (λ (stop : Stop). (held : Held) (counts : List ℕ → ℕ) → Stops held counts counts old statement stop)
    (λ told stop first is held counts. subst (Stops held counts counts old statement) (sym is) (Stops-first held old statement counts told first))
    c.map_err.ensures.cases c.prepare.ensures.stop
