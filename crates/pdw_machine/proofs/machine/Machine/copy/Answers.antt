use Rattle.std.proofs.Common.{◌≡◌, true, ◌∙◌, ap, sym, subst}
use Rattle.pdw_machine.specs.Machine.{Work, copy_enabled, place}
use Rattle.pdw_machine.proofs.MachineLemmas.{kept_copy}
use Rattle.pdw_machine.proofs.machine.Machine.copy.Goals as goal

pub invariant_of-self-2 : goal.invariant_of-self-2
invariant_of-self-2 c =
    let job = c.self.inside.job in
    kept_copy job c.self.inside.state c.copy.new.self c.self.inside.ready c.refresh_copy.new.self c.self.invariant c.place-to.result (place job.nodes c.args.to)
    (c.place-to.ensures ∙ ap (λ n. place n c.args.to) c.nodes-nodes.ensures)
    (subst (λ (w : Work). copy_enabled (place w.job.nodes c.args.to) w.state ≡ true) (sym c.self.view_is) c.requires)
    c.in_ok-copy.ensures.ok c.refresh_copy.ensures
