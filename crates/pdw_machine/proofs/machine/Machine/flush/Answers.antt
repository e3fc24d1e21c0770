use Rattle.std.proofs.Common.{◌≡◌, true, ◌∙◌, ap, sym, subst}
use Rattle.pdw_machine.specs.Machine.{Work, flush_enabled, place}
use Rattle.pdw_machine.proofs.MachineLemmas.{kept_flush}
use Rattle.pdw_machine.proofs.machine.Machine.flush.Goals as goal

pub invariant_of-self : goal.invariant_of-self
invariant_of-self c =
    let job = c.self.inside.job in
    kept_flush job c.self.inside.state c.flush.new.self c.self.inside.ready c.refresh_flush.new.self c.self.invariant
    c.place-from.result c.place-to.result (place job.nodes c.args.from) (place job.nodes c.args.to)
    (c.place-from.ensures ∙ ap (λ n. place n c.args.from) c.nodes-nodes.ensures) (c.place-to.ensures ∙ ap (λ n. place n c.args.to) c.nodes-nodes.ensures)
    (subst (λ (w : Work). flush_enabled (place w.job.nodes c.args.from) (place w.job.nodes c.args.to) w.state ≡ true) (sym c.self.view_is) c.requires)
    c.flush.ensures c.refresh_flush.ensures
