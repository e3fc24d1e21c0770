use Rattle.std.proofs.Common.{◌∙◌, ap, length}
use Rattle.pdw_machine.specs.Events.{enabled_events}
use Rattle.pdw_machine.specs.Machine.{Work}
use Rattle.pdw_machine.proofs.EventLemmas.{up_in_all-length}
use Rattle.pdw_machine.proofs.machine.Machine.enabled_count.Goals as goal

pub returns : goal.returns
returns c =
    c.count.ensures.count
    ∙ up_in_all-length c.self.inside.job c.self.inside.state c.self.invariant.shaped c.self.inside.ready c.self.invariant.right
    ∙ ap (λ (w : Work). length (enabled_events w.job w.state)) c.self.view_is
