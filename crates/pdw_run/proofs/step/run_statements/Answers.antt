use Rattle.std.proofs.Common.{ℕ, ◌+◌, ◌∙◌, List, refl, sym, subst}
use Rattle.std.proofs.lemmas.List.{drop_all}
use Rattle.pdw_outside.proofs.SinkLemmas.{adds_both, adds_none}
use Rattle.pdw_outside.specs.Sink.{Adds}
use Rattle.pdw_run.specs.Output.{CountsWriting, EndsIn, Finished, Gives, Held, SameReading, Writes}
use Rattle.pdw_engine.specs.Plain.{plain_of}
use Rattle.pdw_run.specs.Run.{EndsBy}
use Rattle.pdw_run.proofs.RunLemmas.{Steps-ended, Writes-end, Writes-more, followed_by-nothing, one_written}
use Rattle.pdw_run.specs.Trace.{Trace, followed_by, nothing}
use Rattle.pdw_run.proofs.step.run_statements.Goals as goal

pub returns-in_default : goal.returns-in_default
returns-in_default g c =
    let inv = c.loop-place.invariant in
    let held = g.F.Files.bytes c.args.files.now in
    let before = g.F.Files.faults c.args.files.now in
    let after = g.F.Files.faults c.step.new.files in
    let state = plain_of c.loop-place.session in
    let statement = c.index-statements-place.result in
    let ends = Steps-ended _ _ _ _ _ _ _ _ _ c.step.result c.in_default.not-Done c.step.ensures.steps in
    let there = subst (λ (told : Held). EndsBy c.step.result (g.F.Files.faults c.loop-place.files) after (EndsIn told (c.loop-place.place + 1) state statement) (g.S.Sink.written c.loop-place.out) (g.S.Sink.written c.step.new.out)) inv.bytes ends in
    let here = subst (λ (counts : List ℕ → ℕ). EndsBy c.step.result counts after (EndsIn held (c.loop-place.place + 1) state statement) (g.S.Sink.written c.loop-place.out) (g.S.Sink.written c.step.new.out)) inv.reading there in
    record {
      lawful = (
        here.0,
        followed_by inv.done here.1,
        here.2,
        Writes-end c.args.statements.now c.loop-place.place statement c.loop-place-test.true c.index-statements-place.is held (plain_of c.args.session.now) state c.args.statements.now inv.done here.1 here.0 inv.so_far here.3,
        adds_both _ _ _ inv.done.text here.1.text inv.added here.4,
      );
      reading = subst (λ (counts : List ℕ → ℕ). SameReading c.step.result counts after) inv.reading c.step.ensures.reading;
      writing = subst (λ (count : ℕ). CountsWriting c.step.result count (g.S.Sink.faults c.step.new.out)) inv.writing c.step.ensures.writing;
      bytes = c.step.ensures.bytes ∙ inv.bytes;
    }

pub loop-place-preserved : goal.loop-place-preserved
loop-place-preserved g c =
    let inv = c.loop-place.invariant in
    let held = g.F.Files.bytes c.args.files.now in
    let state = plain_of c.loop-place.session in
    let next = plain_of c.step.new.session in
    let statement = c.index-statements-place.result in
    let statements = c.args.statements.now in
    let step = subst (λ (told : Held). (trace : Trace) × Gives told state statement trace next × Adds (g.S.Sink.written c.loop-place.out) (g.S.Sink.written c.step.new.out) trace.text) inv.bytes c.in-Done.ensures.steps in
    record {
      done = followed_by inv.done step.0;
      added = adds_both _ _ _ inv.done.text step.0.text inv.added step.2;
      so_far = Writes-more statements c.loop-place.place statement c.loop-place-test.true c.index-statements-place.is held (plain_of c.args.session.now) state next statements inv.done step.0 inv.so_far step.1;
      reading = c.in-Done.ensures.reading ∙ inv.reading;
      bytes = c.in-Done.ensures.bytes ∙ inv.bytes;
      writing = c.in-Done.ensures.writing ∙ inv.writing;
    }

pub returns-clause-lawful : goal.returns-clause-lawful
returns-clause-lawful g c =
    let inv = c.loop-place.invariant in
    let held = g.F.Files.bytes c.args.files.now in
    let none = drop_all c.loop-place.place c.args.statements.now c.loop-place-test.false in
    let all = inv.so_far Finished nothing (subst (λ left. Writes held (c.loop-place.place + 1) (plain_of c.loop-place.session) left Finished nothing) (sym none) refl) in
    (Finished, inv.done, refl, subst (Writes held 1 (plain_of c.args.session.now) c.args.statements.now Finished) (followed_by-nothing inv.done) all, inv.added)

pub loop-place-init : goal.loop-place-init
loop-place-init g c = record {
  done = nothing;
  added = adds_none (g.S.Sink.written c.args.out.now);
  so_far = λ end rest all. all;
  reading = refl;
  bytes = refl;
  writing = refl;
}

pub step-requires : goal.step-requires
step-requires g c = one_written c.args.statements.now c.loop-place.place c.index-statements-place.result c.loop-place-test.true c.index-statements-place.is c.requires
