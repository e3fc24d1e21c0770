use Rattle.std.proofs.Common.{ℕ, List, ◌∙◌, Err, ap, refl, sym, subst, inl, inr}
use Rattle.pdw_outside.proofs.SinkLemmas.{adds_none}
use Rattle.pdw_outside.specs.Faults.{Rose}
use Rattle.pdw_outside.specs.Whole.{IsContent, IsLongerThan, SameUnlessFailed}
use Rattle.pdw_outside.specs.declared.reading.ReadStop.{ReadStop}
use Rattle.pdw_base.specs.declared.limits.TheConstants.{MOST_SCRIPT_BYTES}
use Rattle.pdw_run.specs.Output.{Held, Outputs, ScriptWrites, Stopped, Tells, Unread}
use Rattle.pdw_run.specs.Refusal.{long_script_line}
use Rattle.pdw_run.specs.Run.{EndsRefused}
use Rattle.pdw_run.proofs.RunLemmas.{EndsBy-refused, some_content}
use Rattle.pdw_run.specs.Trace.{nothing}
use Rattle.pdw_run.proofs.run.run_script.Goals as goal

pub returns-in-Ok-clause-lawful : goal.returns-in-Ok-clause-lawful
returns-in-Ok-clause-lawful g c =
    let held = g.F.Files.bytes c.args.files.now in
    let after = g.F.Files.faults c.run_bytes.new.files in
    let script = c.as_slice.result.now in
    let told = subst (λ (name : List ℕ). IsContent (held name) c.in-Ok.script.items) c.text.ensures c.in-Ok.ensures.whole in
    let ends = c.run_bytes.ensures.lawful in
    let tells = subst (λ (before : List ℕ → ℕ). Tells c.run_bytes.result before after ends.0) c.in-Ok.ensures.quiet ends.2 in
    let writes = subst (λ (bytes : Held). ScriptWrites bytes c.args.nodes script ends.0 ends.1) c.in-Ok.ensures.bytes ends.3 in
    let content = subst (λ (found : List ℕ). IsContent (held c.args.name.now) found) (sym c.as_slice.ensures.value) told in
    (ends.0, ends.1, tells, inl (script, content, writes), ends.4)

pub returns-in-Ok-long_script-clause-lawful : goal.returns-in-Ok-long_script-clause-lawful
returns-in-Ok-long_script-clause-lawful g c =
    let held = g.F.Files.bytes c.args.files.now in
    let old = g.S.Sink.written c.args.out.now in
    let new = g.S.Sink.written c.refuse.new.out in
    let line = c.as_str.ensures.value ∙ c.in-Ok-long_script.ensures in
    let refused = subst (λ (text : List ℕ). EndsRefused c.refuse.result old new (g.S.Sink.faults c.args.out.now) (g.S.Sink.faults c.refuse.new.out) text) line c.refuse.ensures in
    let longer = subst (λ (name : List ℕ). IsLongerThan MOST_SCRIPT_BYTES (held name)) c.text.ensures (c.in-Err-TooLong.ensures.too_long (ap Err c.in-Err-TooLong.field-0-is)) in
    let ends = EndsBy-refused c.refuse.result old new _ _ long_script_line (Outputs held c.args.nodes c.args.name.now) (g.F.Files.faults c.args.files.now) (g.F.Files.faults c.args.files.now) refused
    (λ end out line. inl (longer.0, longer.1, inl (longer.2, line))) in
    let same = subst (λ (stop : ReadStop). SameUnlessFailed {T = List ℕ} (Err stop) (g.F.Files.faults c.args.files.now) (g.F.Files.faults c.read_whole.new.files)) c.in-Err-TooLong.field-0-is c.in-Err-TooLong.ensures.quiet in
    (ends.0, ends.1, subst (λ (after : List ℕ → ℕ). Tells c.refuse.result (g.F.Files.faults c.args.files.now) after ends.0) (sym same) ends.2, ends.3, ends.4)

pub returns-in-Err-Failed-clause-lawful : goal.returns-in-Err-Failed-clause-lawful
returns-in-Err-Failed-clause-lawful g c =
    let before = g.F.Files.faults c.args.files.now in
    let after = g.F.Files.faults c.read_whole.new.files in
    let rose = subst (λ (name : List ℕ). Rose (before name) (after name)) c.text.ensures (c.in-Err-Failed.ensures.failed (ap Err c.in-Err-Failed.field-0-is)) in
    (Unread c.args.name.now, nothing, (c.args.name.now, refl, rose), inr (refl, refl), adds_none (g.S.Sink.written c.args.out.now))

pub returns-in-Err-clause-lawful : goal.returns-in-Err-clause-lawful
returns-in-Err-clause-lawful g c =
    let content = some_content (g.F.Files.bytes c.args.files.now c.args.name.now) in
    (Stopped, nothing, refl, inl (content.0, content.1, inr (inr (inr (refl, refl)))), adds_none (g.S.Sink.written c.args.out.now))

pub returns-in-Err-Memory-clause-lawful : goal.returns-in-Err-Memory-clause-lawful
returns-in-Err-Memory-clause-lawful g c =
    let content = some_content (g.F.Files.bytes c.args.files.now c.args.name.now) in
    (Stopped, nothing, refl, inl (content.0, content.1, inr (inr (inr (refl, refl)))), adds_none (g.S.Sink.written c.args.out.now))
