use Rattle.std.proofs.Common.{inl, refl}
use Rattle.pdw_outside.proofs.SinkLemmas.{adds_none}
use Rattle.pdw_run.specs.Trace.{nothing}
use Rattle.pdw_run.proofs.CompleteLemmas.{Done-or-Memory, Refused-or-Memory}
use Rattle.pdw_run.proofs.run.run.Goals as goal

pub returns-in-Some-clause-completes : goal.returns-in-Some-clause-completes
returns-in-Some-clause-completes g c form none quiet =
    let ends = c.run_script.ensures.lawful in
    Done-or-Memory (g.F.Files.bytes c.args.files.now) (g.F.Files.faults c.args.files.now) (g.F.Files.faults c.run_script.new.files) c.args.words.now
    c.in-Some.asked.nodes c.in-Some.asked.script.now ends.1 ends.0 (g.S.Sink.faults c.args.out.now) (g.S.Sink.faults c.run_script.new.out) c.run_script.result c.in-Some.ensures ends.2 ends.3 c.run_script.ensures.writing none quiet

pub returns-in-Some-clause-refuses : goal.returns-in-Some-clause-refuses
returns-in-Some-clause-refuses g c form none quiet =
    let ends = c.run_script.ensures.lawful in
    Refused-or-Memory (g.F.Files.bytes c.args.files.now) (g.F.Files.faults c.args.files.now) (g.F.Files.faults c.run_script.new.files) c.args.words.now
    c.in-Some.asked.nodes c.in-Some.asked.script.now ends.1 ends.0 (g.S.Sink.faults c.args.out.now) (g.S.Sink.faults c.run_script.new.out) c.run_script.result c.in-Some.ensures ends.2 ends.3 c.run_script.ensures.writing none quiet

pub returns-in-None-clause-lawful : goal.returns-in-None-clause-lawful
returns-in-None-clause-lawful g c = (nothing, inl (refl, c.in-None.ensures, refl), adds_none (g.S.Sink.written c.args.out.now))
