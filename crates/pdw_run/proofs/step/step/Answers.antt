use Rattle.std.proofs.Common.{ℕ, List, string_bytes, inl, refl, subst, take}
use Rattle.pdw_outside.proofs.SinkLemmas.{adds_none}
use Rattle.pdw_run.specs.Output.{Cut, Unread}
use Rattle.pdw_engine.specs.Plain.{plain_of}
use Rattle.pdw_run.specs.Stops.{Stops}
use Rattle.pdw_run.specs.Trace.{cut_at, nothing, prints}
use Rattle.pdw_run.specs.RefusalLine.{refusal_line}
use Rattle.pdw_run.specs.Refusal.{long_file_line}
use Rattle.pdw_run.proofs.RunLemmas.{Steps-refused_by}
use Rattle.pdw_outside.specs.Sink.{Adds}
use Rattle.pdw_run.proofs.step.step.Goals as goal

pub returns-in-Err-Unread-clause-steps : goal.returns-in-Err-Unread-clause-steps
returns-in-Err-Unread-clause-steps g c =
    let stop = subst (λ s. Stops (g.F.Files.bytes c.args.files.now) (g.F.Files.faults c.args.files.now) (g.F.Files.faults c.execute.new.files) (plain_of c.args.session.now) c.args.statement.now s) c.in-Err-Unread.field-0-is c.in-Err-Unread.ensures.stop in
    (Unread stop.0, nothing, (stop.0, refl, stop.2), (stop.1, refl), adds_none (g.S.Sink.written c.args.out.now))

pub returns-in-Ok-clause-steps : goal.returns-in-Ok-clause-steps
returns-in-Ok-clause-steps g c =
    let text = prints c.in-Ok.text.items in
    let cut = subst (λ (bytes : List ℕ). (count : ℕ) × Adds (g.S.Sink.written c.args.out.now) (g.S.Sink.written c.write_whole.new.sink) (take count bytes)) c.as_slice.ensures.value c.in-Err.ensures.cut in
    (Cut, cut_at cut.0 text, refl, (text, cut.0, inl (plain_of c.execute.new.session, c.in-Ok.ensures.text), refl), cut.1)

pub returns-in-Err-Refused-clause-steps : goal.returns-in-Err-Refused-clause-steps
returns-in-Err-Refused-clause-steps g c =
    let held = g.F.Files.bytes c.args.files.now in
    let before = g.F.Files.faults c.args.files.now in
    let after = g.F.Files.faults c.execute.new.files in
    let state = plain_of c.args.session.now in
    let stop = subst (Stops held before after state c.args.statement.now) c.in-Err-Refused.field-0-is c.in-Err-Refused.ensures.stop in
    Steps-refused_by held c.args.k state c.args.statement.now (plain_of c.execute.new.session) before after (g.S.Sink.written c.args.out.now) (g.S.Sink.written c.refuse_by.new.out)
    (g.S.Sink.faults c.args.out.now) (g.S.Sink.faults c.refuse_by.new.out) (refusal_line c.args.k c.in-Err-Refused.refusal) c.refuse_by.result c.refusal_line.result string_bytes
    (stop.0 c.args.k) c.refusal_line.ensures c.refuse_by.ensures.written c.refuse_by.ensures.memory

pub returns-in-Err-TooLong-clause-steps : goal.returns-in-Err-TooLong-clause-steps
returns-in-Err-TooLong-clause-steps g c =
    let held = g.F.Files.bytes c.args.files.now in
    let before = g.F.Files.faults c.args.files.now in
    let after = g.F.Files.faults c.execute.new.files in
    let state = plain_of c.args.session.now in
    let stop = subst (Stops held before after state c.args.statement.now) c.in-Err-TooLong.field-0-is c.in-Err-TooLong.ensures.stop in
    Steps-refused_by held c.args.k state c.args.statement.now (plain_of c.execute.new.session) before after (g.S.Sink.written c.args.out.now) (g.S.Sink.written c.refuse_by-in-Err-TooLong.new.out)
    (g.S.Sink.faults c.args.out.now) (g.S.Sink.faults c.refuse_by-in-Err-TooLong.new.out) (long_file_line c.args.k) c.refuse_by-in-Err-TooLong.result c.long_file.result string_bytes
    (stop.0 c.args.k) c.long_file.ensures c.refuse_by-in-Err-TooLong.ensures.written c.refuse_by-in-Err-TooLong.ensures.memory
