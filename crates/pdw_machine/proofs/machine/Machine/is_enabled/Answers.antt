use Rattle.std.proofs.Common.{◌∙◌, ap}
use Rattle.pdw_machine.specs.Machine.{Work, is_enabled}
use Rattle.pdw_machine.specs.Ready.{is_up}
use Rattle.pdw_machine.proofs.EventLemmas.{up_is_enabled}
use Rattle.pdw_machine.proofs.machine.Machine.is_enabled.Goals as goal

pub returns : goal.returns
returns c =
    c.is_up.ensures
    ∙ ap (λ n. is_up n c.self.inside.ready c.args.event.now) c.nodes.ensures
    ∙ up_is_enabled c.self.inside.job c.self.inside.state c.self.invariant.shaped c.self.inside.ready c.self.invariant.right c.args.event.now
    ∙ ap (λ (w : Work). is_enabled w.job w.state c.args.event.now) c.self.view_is
