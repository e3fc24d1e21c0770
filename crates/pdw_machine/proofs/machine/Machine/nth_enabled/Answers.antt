use Rattle.std.proofs.Common.{◌<◌, ◌∙◌, Some, ap, sym, subst, length, arith}
use Rattle.std.specs.List.{slice_get}
use Rattle.std.proofs.lemmas.Option.{slice_get-get_or}
use Rattle.pdw_machine.specs.Events.{enabled_events}
use Rattle.pdw_machine.specs.Machine.{Work}
use Rattle.pdw_machine.specs.Ready.{numbered}
use Rattle.pdw_machine.proofs.EventLemmas.{all_numbered, up_in_all-length}
use Rattle.pdw_machine.proofs.machine.Machine.nth_enabled.Goals as goal

pub returns : goal.returns
returns c =
    let job = c.self.inside.job in
    let s = c.self.inside.state in
    let less : c.args.k < length (enabled_events job s) = subst (λ (w : Work). c.args.k < length (enabled_events w.job w.state)) (sym c.self.view_is) c.requires in
    let count = up_in_all-length job s c.self.invariant.shaped c.self.inside.ready c.self.invariant.right in
    ap (λ (w : Work). slice_get (enabled_events w.job w.state) c.args.k) (sym c.self.view_is)
    ∙ slice_get-get_or (enabled_events job s) c.args.k c.nth.result less
    ∙ ap Some (all_numbered job s c.self.invariant.shaped c.self.inside.ready c.self.invariant.right c.args.k c.nth.result (omega arith)
    ∙ ap (λ n. numbered n c.self.inside.ready c.args.k) (sym c.nodes.ensures)
    ∙ sym c.nth.ensures)
