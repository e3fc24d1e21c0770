use Rattle.std.proofs.Common.{refl}
use Rattle.pdw_outside.proofs.SinkLemmas.{adds_none}
use Rattle.pdw_run.specs.Output.{Stopped}
use Rattle.pdw_engine.specs.Plain.{start}
use Rattle.pdw_run.proofs.RunLemmas.{Writes-stopped}
use Rattle.pdw_run.specs.Trace.{nothing}
use Rattle.pdw_run.proofs.run.run_anew.Goals as goal

pub returns-in-Err-clause-lawful : goal.returns-in-Err-clause-lawful
returns-in-Err-clause-lawful g c =
    (Stopped, nothing, refl, Writes-stopped (g.F.Files.bytes c.args.files.now) 1 (start c.args.nodes) c.args.statements.now, adds_none (g.S.Sink.written c.args.out.now))
