use Rattle.std.proofs.Common.{◌≡◌, ◌+◌, drop}
use Rattle.pdw_outside.specs.Sink.{Adds}
use Rattle.pdw_run.specs.Output.{End, Writes}
use Rattle.pdw_engine.specs.Plain.{plain_of}
use Rattle.pdw_run.specs.Trace.{Trace, followed_by}
use Rattle.pdw_run.proofs.step.run_statements.Given as goal

-- what was written so far, and then what the statements that are left write, is what all of them write
abbrev pub invariant-loop-place : goal.invariant-loop-place
invariant-loop-place g l = record {
  done : Trace;
  added : Adds (g.S.Sink.written l.initial.out) (g.S.Sink.written l.out) done.text;
  so_far : (end : End) (rest : Trace) → Writes (g.F.Files.bytes l.initial.files) (l.place + 1) (plain_of l.session) (drop l.place l.statements) end rest
      → Writes (g.F.Files.bytes l.initial.files) 1 (plain_of l.initial.session) l.statements end (followed_by done rest);
  reading : g.F.Files.faults l.files ≡ g.F.Files.faults l.initial.files;
  bytes : g.F.Files.bytes l.files ≡ g.F.Files.bytes l.initial.files;
  writing : g.S.Sink.faults l.out ≡ g.S.Sink.faults l.initial.out;
}
