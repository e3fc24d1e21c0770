use Rattle.std.proofs.Common.{suc, false, map, replicate, ap, sym, ◌∙◌, subst}
use Rattle.pdw_machine.specs.Flags.{}
use Rattle.pdw_machine.specs.Machine.{IsShaped, Source, can_copy}
use Rattle.pdw_machine.specs.Ready.{deliver_row, flush_row}
use Rattle.pdw_machine.proofs.StartLemmas.{start-copies, start-delivers, start-flushes, start-shaped}
use Rattle.pdw_machine.proofs.ready.Ready.new.Goals as goal

pub first_reads-requires : goal.first_reads-requires
first_reads-requires c = subst (IsShaped c.args.job.now.nodes) (sym c.requires.1) (start-shaped c.args.job.now.nodes c.requires.0)

pub returns : goal.returns
returns c =
    let n = c.args.job.now.nodes in
    let placed = c.requires.0 in
    let same = sym c.requires.1 in
    record {
      next = c.in_ok-next.ensures.next;
      reads = c.in_ok-next.ensures.reads;
      flushes = c.in_ok-flushes.ensures.flushes
          ∙ ap (λ m. replicate (suc m) (replicate (suc m) false)) c.nodes.ensures
          ∙ start-flushes n placed
          ∙ ap (λ s. map flush_row s.sources) same;
      delivers = c.in_ok-flushes.ensures.delivers
          ∙ ap (λ m. replicate (suc m) (replicate (suc m) false)) c.nodes.ensures
          ∙ start-delivers n placed
          ∙ ap (λ s. map (λ (source : Source). deliver_row source.lanes s.targets) s.sources) same;
      copies = c.in_ok-flushes.ensures.copies
          ∙ ap (λ m. replicate (suc m) false) c.nodes.ensures
          ∙ start-copies n placed
          ∙ ap (λ s. map can_copy s.targets) same;
    }
