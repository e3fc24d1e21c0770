use Rattle.std.proofs.Common.{Some, ◌∙◌, ap, refl, sym, inl, inr}
use Rattle.pdw_outside.proofs.SinkLemmas.{adds_none}
use Rattle.pdw_run.specs.Output.{ScriptWrites, Stopped}
use Rattle.pdw_run.specs.Trace.{nothing}
use Rattle.pdw_run.proofs.RunLemmas.{EndsBy-refused}
use Rattle.pdw_run.proofs.run.run_bytes.Goals as goal

pub returns-in-Ok-line-clause-lawful : goal.returns-in-Ok-line-clause-lawful
returns-in-Ok-line-clause-lawful g c =
    let line = c.as_str.result.now in
    EndsBy-refused c.refuse.result (g.S.Sink.written c.args.out.now) (g.S.Sink.written c.refuse.new.out) _ _ line (ScriptWrites (g.F.Files.bytes c.args.files.now) c.args.nodes c.args.script.now) _ _ c.refuse.ensures
    (λ end out ends. inr (inl (
      c.requires,
      line,
      record { error = c.in-Err.error; fault = c.in-Err.ensures.fault; named = c.in-Ok-line.ensures ∙ ap Some (sym c.as_str.ensures.value) },
      ends,
    )))

pub returns-in-Err-line-clause-lawful : goal.returns-in-Err-line-clause-lawful
returns-in-Err-line-clause-lawful g c = (Stopped, nothing, refl, inr (inr (inr (refl, refl))), adds_none (g.S.Sink.written c.args.out.now))
