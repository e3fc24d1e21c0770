use Rattle.std.proofs.Common.{◌≡◌, true, ◌∙◌, ap, sym, subst}
use Rattle.pdw_machine.specs.Machine.{Work, place, read_at, read_enabled}
use Rattle.pdw_machine.proofs.MachineLemmas.{kept_read}
use Rattle.pdw_machine.proofs.machine.Machine.read.Goals as goal

pub invariant_of-self-2 : goal.invariant_of-self-2
invariant_of-self-2 c =
    let job = c.self.inside.job in
    let s = c.self.inside.state in
    kept_read job s c.read.new.self c.self.inside.ready c.refresh_read.new.self c.self.invariant c.index-next.result.now c.place-at.result (place job.nodes c.args.from)
    (c.place-at.ensures ∙ ap (λ n. place n c.args.from) c.nodes-nodes.ensures)
    (subst (λ (w : Work). read_enabled w.job (place w.job.nodes c.args.from) w.state ≡ true) (sym c.self.view_is) c.requires)
    (c.in_ok-read.ensures.ok ∙ ap (λ n. read_at n c.index-next.result.now c.place-at.result s) c.nodes-nodes.ensures)
    c.refresh_read.ensures
