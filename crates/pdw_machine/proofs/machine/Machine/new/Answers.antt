use Rattle.std.proofs.Common.{◌∙◌, ap, sym, subst}
use Rattle.pdw_machine.specs.Machine.{IsShaped, start_of}
use Rattle.pdw_machine.proofs.StartLemmas.{start-shaped}
use Rattle.pdw_machine.proofs.machine.Machine.new.Goals as goal

pub invariant_of-result : goal.invariant_of-result
invariant_of-result c =
    let n = c.args.job.nodes in
    let started = c.in_ok-state.ensures ∙ ap (λ m. start_of m c.args.placed) c.nodes.ensures in
    record {
      shaped = subst (IsShaped n) (sym started) (start-shaped n c.args.placed);
      right = c.in_ok-ready.ensures;
    }
