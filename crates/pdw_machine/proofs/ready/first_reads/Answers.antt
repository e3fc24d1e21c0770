use Rattle.std.proofs.Common.{◌≡◌, ◌+◌, ◌<◌, ◌++◌, ◌∷◌, [], false, length, map, set, take, drop, replicate, add-one, ap, sym, ◌∙◌, arith}
use Rattle.std.proofs.lemmas.List.{length-replicate, map-append, take_more}
use Rattle.pdw_machine.specs.Machine.{can_read, next_receivers, no_source, source_at}
use Rattle.pdw_machine.specs.Ready.{can_read_first}
use Rattle.pdw_machine.proofs.GridLemmas.{filled}
use Rattle.pdw_machine.proofs.ready.first_reads.Goals as goal

pub loop-from-preserved : goal.loop-from-preserved
loop-from-preserved c =
    let job = c.args.job.now in
    let sources = c.args.state.now.sources in
    let from = c.loop-from.from in
    let old = replicate (c.get.result + 1) false in
    let long = length-replicate (c.get.result + 1) false in
    let within : from < length sources = omega (arith, c.requires.sources, c.nodes-nodes.ensures) in
    let more = take_more sources from no_source within in
    let flag : c.can_read.result ≡ can_read_first job (source_at from c.args.state.now) =
    c.can_read.ensures
    ∙ ap (λ n. can_read n c.next_receivers-receivers.result (source_at from c.args.state.now)) c.nodes-nodes.ensures
    ∙ ap (λ next. can_read job.nodes next (source_at from c.args.state.now)) c.next_receivers-receivers.ensures in
    record {
      next = c.in_ok-push.ensures.items
          ∙ ap (λ next. next ++ c.next_receivers-receivers.result ∷ []) c.loop-from.invariant.next
          ∙ ap (λ next. map (next_receivers job) (take from sources) ++ next ∷ []) c.next_receivers-receivers.ensures
          ∙ sym (ap (map (next_receivers job)) more ∙ map-append (next_receivers job) (take from sources) (source_at from c.args.state.now ∷ []));
      reads = c.set.ensures
          ∙ ap (λ reads. set reads from c.can_read.result) c.loop-from.invariant.reads
          ∙ ap (λ b. set (map (can_read_first job) (take from sources) ++ drop from old) from b) flag
          ∙ filled (can_read_first job) sources old from no_source within (omega (arith, c.requires.sources, c.nodes-nodes.ensures, c.get.ensures.value))
          ∙ ap (λ m. map (can_read_first job) (take m sources) ++ drop m old) (sym (add-one from));
    }
